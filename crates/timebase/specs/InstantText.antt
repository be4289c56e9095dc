-- What is printed of a moment: its civil date and time at UTC, by the calendar of jiff.
use Rattle.std.specs.Prelude.{ℕ, zero, suc, ◌+◌, ◌-◌, ◌/◌, ◌%◌, nat_le, if◌then◌else◌, List, [], ◌∷◌, ◌++◌, ℤ, pos, ◌+ℤ◌, ◌-ℤ◌, unsigned_abs}
use Rattle.std.specs.Int.{int_div_euclid, int_rem_euclid}
use Rattle.jiff_core.specs.Calendar.{days_of_years, days_of_months}
use Rattle.jiff_fmt.specs.Text.{pad2, year_text, places}

-- the greatest k up to n where f k is at most x
unfoldable pub last_within : (ℕ → ℕ) → ℕ → ℕ → ℕ
last_within f zero x = zero
last_within f (suc k) x = if nat_le (f (suc k)) x then suc k else last_within f k x

-- how many years since the year -10000 have passed on a day that is so many days after its first
unfoldable pub year_place : ℕ → ℕ
year_place n = last_within days_of_years 19999 n

-- the year of that day
abbrev pub year_at : ℕ → ℤ
year_at n = pos (year_place n) -ℤ pos 10000

-- how many days of its year have passed
abbrev pub day_in_year : ℕ → ℕ
day_in_year n = n - days_of_years (year_place n)

-- how many months of the year are over
unfoldable pub month_place : ℕ → ℕ
month_place n = last_within (days_of_months (year_at n)) 11 (day_in_year n)

-- its month, from 1
abbrev pub month_at : ℕ → ℕ
month_at n = month_place n + 1

-- its day of the month, from 1
abbrev pub day_at : ℕ → ℕ
day_at n = day_in_year n - days_of_months (year_at n) (month_place n) + 1

-- how many days lie between 1 January of the year -10000 and the day of a moment
abbrev pub day_of : ℤ → ℕ
day_of z = unsigned_abs (int_div_euclid z (pos 86400000) +ℤ pos 4371953)

-- the milliseconds of its day that have passed
abbrev pub ms_of_day : ℤ → ℕ
ms_of_day z = unsigned_abs (int_rem_euclid z (pos 86400000))

-- `YYYY-MM-DD`
abbrev pub date_text_at : ℕ → List ℕ
date_text_at n = year_text (year_at n) ++ 45 ∷ [] ++ pad2 (month_at n) ++ 45 ∷ [] ++ pad2 (day_at n)

-- `HH:MM:SS.mmm`
abbrev pub clock_text_at : ℕ → List ℕ
clock_text_at c =
    pad2 (c / 3600000) ++ 58 ∷ pad2 (c / 60000 % 60) ++ 58 ∷ pad2 (c / 1000 % 60) ++ 46
    ∷ places 3 1000 (c % 1000)

-- the text of a moment, `YYYY-MM-DDTHH:MM:SS.mmmZ`
unfoldable pub instant_text : ℤ → List ℕ
instant_text z = date_text_at (day_of z) ++ 84 ∷ clock_text_at (ms_of_day z) ++ 90 ∷ []
