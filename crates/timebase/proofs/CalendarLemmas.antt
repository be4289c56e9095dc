-- The text of a moment is what jiff's calendar shows.
use Rattle.std.proofs.Common.{ℕ, zero, suc, ◌≡◌, ◌∙◌, ◌+◌, ◌-◌, ◌*◌, ◌/◌, ◌%◌, ◌<◌, ◌≤◌, ◌++◌, ◌∷◌, [], List, inl, inr, leb, true, false, ap, sym, refl, ℤ, pos, negsuc, ◌≤ℤ◌, ◌+ℤ◌, ◌-ℤ◌, ◌*ℤ◌, arith, Some, unsigned_abs}
use Rattle.std.proofs.lemmas.Bool.{cases_lt}
use Rattle.std.proofs.lemmas.Bool.Decides.{nat_tests}
use Rattle.std.specs.Int.{int_div_euclid, int_rem_euclid}
use Rattle.jiff.specs.Types.{DateTime}
use Rattle.jiff.specs.Words.{datetime_text}
use Rattle.jiff_core.specs.Date.{epoch_day}
use Rattle.jiff_core.specs.Time.{time_nanos}
use Rattle.jiff_core.specs.DateTime.{civil_nanos}
use Rattle.jiff_core.specs.Calendar.{days_of_years, days_of_months, days_in_month, days_in_year, day_count, day_of_year, IsCivilDate}
use Rattle.jiff_core.proofs.CalendarLemmas.{days_from_civil-day_count, days_of_months_mono, days_of_months_more, day_of_year_bound}
use Rattle.jiff_core.proofs.DateTimeLemmas.{civil_nanos-parts, time_nanos_bound}
use Rattle.jiff_core.proofs.SignedLemmas.{signed_arith}
use Rattle.jiff_fmt.specs.Text.{places, pad2, year_text}
use Rattle.timebase.specs.InstantText.{last_within, year_place, month_place, year_at, day_in_year, month_at, day_at, day_of, ms_of_day, instant_text}

pub last_within_is : (f : ℕ → ℕ) → ((i j : ℕ) → i ≤ j → f i ≤ f j) → (n y x : ℕ) → y ≤ n → f y ≤ x → x < f (suc y) → last_within f n x ≡ y
unfolding last_within
last_within_is f mono zero y x h low high = omega arith
last_within_is f mono (suc k) y x h low high =
    elim (cases_lt x (f (suc k))) [
      | inl lt ↦ let no : leb (f (suc k)) x ≡ false = grind (arith, nat_tests) in
          elim (cases_lt k y) [
            | inl over ↦ let e : y ≡ suc k = omega arith in let same = ap f e in absurd (omega arith)
            | inr le ↦ rw no (last_within_is f mono k y x le low high)
          ]
      | inr ge ↦ let yes : leb (f (suc k)) x ≡ true = grind (arith, nat_tests) in
          elim (cases_lt y (suc k)) [
            | inl lt ↦ let m = mono (suc y) (suc k) (omega arith) in absurd (omega arith)
            | inr le ↦ rw yes (omega arith)
          ]
    ]

days_of_years_step : (n : ℕ) → days_of_years n ≤ days_of_years (suc n)
unfolding days_of_years
days_of_years_step n = omega arith

pub days_of_years_mono : (i j : ℕ) → i ≤ j → days_of_years i ≤ days_of_years j
days_of_years_mono i zero h = let e : i ≡ zero = omega arith in rw e (omega arith)
days_of_years_mono i (suc j) h =
    elim (cases_lt i (suc j)) [
      | inl lt ↦ omega (arith, days_of_years_mono i j (omega arith), days_of_years_step j)
      | inr ge ↦ let e : i ≡ suc j = omega arith in rw e (omega arith)
    ]

pub abs_of : (z : ℤ) → pos 0 ≤ℤ z → pos (unsigned_abs z) ≡ z
abs_of (pos n) h = refl
abs_of (negsuc n) h = absurd (omega (arith, signed_arith))

year_offset : (y : ℤ) (m d : ℕ) → IsCivilDate y m d → pos (unsigned_abs (y +ℤ pos 10000)) -ℤ pos 10000 ≡ y
year_offset y m d h =
    let e = abs_of (y +ℤ pos 10000) (omega (arith, signed_arith, h.0)) in
    let back : (y +ℤ pos 10000) -ℤ pos 10000 ≡ y = omega (arith, signed_arith) in
    ap (λ z. z -ℤ pos 10000) e ∙ back

day_count-split : (y : ℤ) (m d : ℕ) → day_count y m d ≡ days_of_years (unsigned_abs (y +ℤ pos 10000)) + (day_of_year y m d - 1)
unfolding day_count
day_count-split y m d = refl

days_of_years-next : (n : ℕ) → days_of_years (suc n) ≡ days_of_years n + days_in_year (pos n -ℤ pos 10000)
unfolding days_of_years
days_of_years-next n = refl

year_place_is : (y : ℤ) (m d n : ℕ) → IsCivilDate y m d → n ≡ day_count y m d → year_place n ≡ unsigned_abs (y +ℤ pos 10000)
unfolding year_place
year_place_is y m d n h e =
    let place : ℕ = unsigned_abs (y +ℤ pos 10000) in
    let split = day_count-split y m d in
    let bound = day_of_year_bound y m d h in
    let back = year_offset y m d h in
    let next : days_of_years (suc place) ≡ days_of_years place + days_in_year y = days_of_years-next place ∙ ap (λ z. days_of_years place + days_in_year z) back in
    let first : 1 ≤ day_of_year y m d = omega (arith, h.2) in
    let abs = abs_of (y +ℤ pos 10000) (omega (arith, signed_arith, h.0)) in
    let small : place ≤ 19999 = omega (arith, signed_arith, h.0) in
    last_within_is days_of_years days_of_years_mono 19999 place n small (omega arith) (omega arith)

pub date_is : (y : ℤ) (m d n : ℕ) → IsCivilDate y m d → n ≡ day_count y m d → (year_at n ≡ y) × (month_at n ≡ m) × (day_at n ≡ d)
unfolding month_place
date_is y m d n h e =
    let place : ℕ = unsigned_abs (y +ℤ pos 10000) in
    let here = year_place_is y m d n h e in
    let year : year_at n ≡ y = ap (λ k. pos k -ℤ pos 10000) here ∙ year_offset y m d h in
    let left : day_in_year n ≡ day_of_year y m d - 1 = let a = ap days_of_years here in let b = day_count-split y m d in omega arith in
    let k : ℕ = m - 1 in
    let low : 1 ≤ m = omega (arith, h.1) in
    let e : m ≡ suc k = omega arith in
    let next : days_of_months y (suc k) ≡ days_of_months y k + days_in_month y m = ap (days_of_months y) (sym e) ∙ days_of_months_more y m low in
    let mono : (i j : ℕ) → i ≤ j → days_of_months y i ≤ days_of_months y j = λ i j q. days_of_months_mono y i j q in
    let month : last_within (days_of_months y) 11 (day_of_year y m d - 1) ≡ k =
    last_within_is (days_of_months y) mono 11 k (day_of_year y m d - 1) (omega (arith, h.1)) (omega (arith, h.2)) (omega (arith, h.2)) in
    let same : month_place n ≡ k = ap (λ z. last_within (days_of_months z) 11 (day_in_year n)) year ∙ ap (last_within (days_of_months y) 11) left ∙ month in
    let f : days_of_months (year_at n) (month_place n) ≡ days_of_months y k = ap (λ z. days_of_months z (month_place n)) year ∙ ap (days_of_months y) same in
    (year, omega arith, omega (arith, h.2))

-- three places of whole milliseconds
places_is : (n m : ℕ) → n ≡ m * 1000000 → m < 1000 → places 3 1000000000 n ≡ places 3 1000 m
unfolding places
places_is n m e h =
    let a : 48 + n / 100000000 ≡ 48 + m / 100 = omega arith in
    let b : 48 + n % 100000000 / 10000000 ≡ 48 + m % 100 / 10 = omega arith in
    let c : 48 + n % 100000000 % 10000000 / 1000000 ≡ 48 + m % 100 % 10 / 1 = omega arith in
    cc

-- the date is that of the day number
day_of_is : (dt : DateTime) (z : ℤ) → civil_nanos dt ≡ z *ℤ pos 1000000 → day_of z ≡ day_count dt.date.year dt.date.month dt.date.day
day_of_is dt z e =
    let parts = civil_nanos-parts dt in
    let bound = time_nanos_bound dt.time in
    let day : int_div_euclid z (pos 86400000) ≡ epoch_day dt.date = omega (arith, signed_arith) in
    let count : epoch_day dt.date +ℤ pos 4371953 ≡ pos (day_count dt.date.year dt.date.month dt.date.day) = omega (arith, signed_arith, days_from_civil-day_count dt.date.year dt.date.month dt.date.day) in
    ap (λ d. unsigned_abs (d +ℤ pos 4371953)) day ∙ ap unsigned_abs count

rest_is : (z q : ℤ) (r : ℕ) → z ≡ q *ℤ pos 86400000 +ℤ pos r → r < 86400000 → unsigned_abs (int_rem_euclid z (pos 86400000)) ≡ r
rest_is (pos a) q r e h = let goal : a % 86400000 ≡ r = omega (arith, signed_arith) in goal
rest_is (negsuc a) q r e h = let goal : 86399999 - a % 86400000 ≡ r = omega (arith, signed_arith) in goal

pub clock_of_is : (dt : DateTime) (z : ℤ) → civil_nanos dt ≡ z *ℤ pos 1000000 → (time_nanos dt.time ≡ ms_of_day z * 1000000) × (ms_of_day z < 86400000)
clock_of_is dt z e =
    let parts = civil_nanos-parts dt in
    let bound = time_nanos_bound dt.time in
    let r : ℕ = time_nanos dt.time / 1000000 in
    let whole : time_nanos dt.time ≡ r * 1000000 = omega (arith, signed_arith) in
    let sum : z ≡ epoch_day dt.date *ℤ pos 86400000 +ℤ pos r = omega (arith, signed_arith) in
    let same = rest_is z (epoch_day dt.date) r sum (omega arith) in
    (whole ∙ ap (λ x. x * 1000000) (sym same), omega arith)

-- the same parts, the same text
same_text : (y y' : ℤ) (mo mo' d d' h h' mi mi' s s' : ℕ) (f f' : List ℕ) → y ≡ y' → mo ≡ mo' → d ≡ d' → h ≡ h' → mi ≡ mi' → s ≡ s' → f ≡ f'
    → year_text y ++ 45 ∷ [] ++ pad2 mo ++ 45 ∷ [] ++ pad2 d ++ 84 ∷ (pad2 h ++ 58 ∷ pad2 mi ++ 58 ∷ pad2 s ++ 46 ∷ f) ++ 90 ∷ []
    ≡ year_text y' ++ 45 ∷ [] ++ pad2 mo' ++ 45 ∷ [] ++ pad2 d' ++ 84 ∷ (pad2 h' ++ 58 ∷ pad2 mi' ++ 58 ∷ pad2 s' ++ 46 ∷ f') ++ 90 ∷ []
same_text y y' mo mo' d d' h h' mi mi' s s' f f' e1 e2 e3 e4 e5 e6 e7 = rw (e1, e2, e3, e4, e5, e6, e7) refl

pub instant_text_is : (dt : DateTime) (z : ℤ) → civil_nanos dt ≡ z *ℤ pos 1000000 → datetime_text false 84 (Some 3) dt ++ 90 ∷ [] ≡ instant_text z
unfolding instant_text
instant_text_is dt z e =
    let date = date_is dt.date.year dt.date.month dt.date.day (day_of z) (dt.date.year_in, dt.date.month_in, dt.date.day_in) (day_of_is dt z e) in
    let clock = clock_of_is dt z e in
    let c : ℕ = ms_of_day z in
    let hour : dt.time.hour ≡ c / 3600000 = omega arith in
    let minute : dt.time.minute ≡ c / 60000 % 60 = omega arith in
    let second : dt.time.second ≡ c / 1000 % 60 = omega arith in
    let rest : dt.time.subsec_nanosecond ≡ (c % 1000) * 1000000 = omega arith in
    let fraction = places_is dt.time.subsec_nanosecond (c % 1000) rest (omega arith) in
    same_text dt.date.year (year_at (day_of z)) dt.date.month (month_at (day_of z)) dt.date.day (day_at (day_of z)) dt.time.hour (c / 3600000) dt.time.minute (c / 60000 % 60) dt.time.second (c / 1000 % 60)
    (places 3 1000000000 dt.time.subsec_nanosecond) (places 3 1000 (c % 1000)) (sym date.0) (sym date.1) (sym date.2) hour minute second fraction
