-- A moment's text is read as that moment.
use Rattle.std.proofs.Common.{ℕ, ◌≡◌, ◌∙◌, ◌%◌, ◌<◌, ◌==◌, min, take_at, drop_at, List, [], ◌∷◌, ◌++◌, Some, Ok, true, false, refl, sym, ap, arith, ℤ, pos, ◌*ℤ◌, ◌-ℤ◌}
use Rattle.std.proofs.lemmas.Bool.Decides.{nat_tests}
use Rattle.std.proofs.lemmas.List.{append_assoc}
use Rattle.std.specs.Char.{is_ascii_digit}
use Rattle.std.specs.Int.{int_div_euclid}
use Rattle.std.specs.List.{prefix_len}
use Rattle.jiff.specs.Types.{Time, DateTime, Timestamp}
use Rattle.jiff_core.specs.DateTime.{civil_nanos}
use Rattle.jiff_core.specs.Timestamp.{nanos_of_seconds}
use Rattle.jiff_core.specs.declared.error.Bound.TheVariants as Bd
use Rattle.jiff_core.specs.declared.error.Syntax.TheVariants as Syntax
use Rattle.jiff_core.proofs.SignedLemmas.{signed_arith}
use Rattle.jiff_fmt.specs.Reader.{nanoseconds, temporal_fraction, fraction_value}
use Rattle.jiff_fmt.specs.Temporal as spec
use Rattle.jiff_fmt.specs.Temporal.{date_spec, time_spec, date_parts, time_parts, temporal_datetime, parse_timestamp}
use Rattle.jiff_fmt.specs.Text.{pad2, places, date_text, time_text, datetime_text, fraction_part}
use Rattle.jiff_fmt.proofs.RoundTrip.{Stops, field-pad2, date_spec-text, offset-zulu, annotations-empty}
use Rattle.jiff_fmt.proofs.TemporalLemmas.{instant-ok}
use Rattle.jiff_fmt.proofs.TextLemmas.{places-read}
use Rattle.timebase.specs.Instant.{moment_of, moment_from, moment_within, IsMoment}
use Rattle.timebase.specs.InstantText.{instant_text}
use Rattle.timebase.proofs.CalendarLemmas.{instant_text_is, clock_of_is}

stops-digit : (rest : List ℕ) → Stops rest → prefix_len is_ascii_digit rest ≡ 0
stops-digit [] s = refl
stops-digit (c ∷ rest) s =
    let not_digit : is_ascii_digit c ≡ false = grind (arith, nat_tests, s) in
    rw not_digit refl

-- three places of whole milliseconds
places-three : (n : ℕ) (rest : List ℕ) → n < 1000000000 → n % 1000000 ≡ 0 → Stops rest → nanoseconds (places 3 1000000000 n ++ rest) ≡ Ok (n, rest)
unfolding nanoseconds
places-three n rest high whole s =
    let facts = places-read 3 9 n rest (omega arith) high in
    let count : min (prefix_len is_ascii_digit (places 3 1000000000 n ++ rest)) 9 ≡ 3 = omega (arith, facts.0, stops-digit rest s) in
    let value : fraction_value 9 (places 3 1000000000 n) ≡ n = omega (arith, facts.2, whole) in
    rw (count, take_at (places 3 1000000000 n) rest 3 facts.1, drop_at (places 3 1000000000 n) rest 3 facts.1, value)

fraction-three : (n : ℕ) (rest : List ℕ) → n < 1000000000 → n % 1000000 ≡ 0 → Stops rest → temporal_fraction (fraction_part (Some 3) n ++ rest) ≡ Ok (Some n, rest)
unfolding temporal_fraction
fraction-three n rest high whole s = rw (places-three n rest high whole s) refl

clock-three : (t : Time) (rest : List ℕ) → t.subsec_nanosecond % 1000000 ≡ 0 → Stops rest → time_spec (time_text (Some 3) t ++ rest) ≡ Ok ((time_parts t, true), rest)
unfolding time_spec
clock-three t rest whole s =
    let fraction_read = fraction-three t.subsec_nanosecond rest t.subsec_in whole s in
    let fraction_text = fraction_part (Some 3) t.subsec_nanosecond ++ rest in
    let after_minute = 58 ∷ pad2 t.second ++ fraction_text in
    let after_hour = 58 ∷ pad2 t.minute ++ after_minute in
    let shape : time_text (Some 3) t ++ rest ≡ pad2 t.hour ++ after_hour = simp append_assoc refl in
    let hour = field-pad2 Syntax.Hour 0 23 Bd.Hour t.hour after_hour (omega arith) (omega (arith, t.hour_in)) (omega (arith, t.hour_in)) in
    let minute = field-pad2 Syntax.Minute 0 59 Bd.Minute t.minute after_minute (omega arith) (omega (arith, t.minute_in)) (omega (arith, t.minute_in)) in
    let second = field-pad2 Syntax.Second 0 60 Bd.LeapSecond t.second fraction_text (omega arith) (omega (arith, t.second_in)) (omega (arith, t.second_in)) in
    let no_leap : (t.second == 60) ≡ false = grind (arith, nat_tests, t.second_in) in
    rw (shape, hour, minute, second, no_leap, fraction_read)

date-three : (dt : DateTime) (rest : List ℕ) → date_spec (datetime_text false 84 (Some 3) dt ++ rest) ≡ Ok (date_parts dt.date, 84 ∷ time_text (Some 3) dt.time ++ rest)
date-three dt rest =
    let shape : datetime_text false 84 (Some 3) dt ++ rest ≡ date_text dt.date ++ (84 ∷ time_text (Some 3) dt.time ++ rest) = append_assoc (date_text dt.date) (84 ∷ time_text (Some 3) dt.time) rest in
    rw shape (date_spec-text dt.date (84 ∷ time_text (Some 3) dt.time ++ rest))

timestamp-three : (dt : DateTime) (t : Timestamp) → dt.time.subsec_nanosecond % 1000000 ≡ 0 → civil_nanos dt ≡ t.nanosecond
    → parse_timestamp (datetime_text false 84 (Some 3) dt ++ 90 ∷ []) ≡ Ok t.nanosecond
unfolding temporal_datetime civil_nanos
timestamp-three dt t whole e =
    let stop : Stops (90 ∷ []) = refl in
    let read = date-three dt (90 ∷ []) in
    let clock = clock-three dt.time (90 ∷ []) whole stop in
    let value : spec.parts_nanos (date_parts dt.date) (time_parts dt.time) -ℤ nanos_of_seconds (pos 0) ≡ t.nanosecond = omega (arith, signed_arith, e) in
    rw (read, clock, offset-zulu, annotations-empty, value, instant-ok t.nanosecond t.in_range)

-- the whole milliseconds of whole milliseconds
whole_millis : (z : ℤ) → int_div_euclid (z *ℤ pos 1000000) (pos 1000000) ≡ z
whole_millis z = omega (arith, signed_arith)

within-moment : (z : ℤ) → IsMoment z → moment_within z ≡ Ok z
within-moment z h = grind (arith, signed_arith, h.0, h.1)

-- what a clock at UTC shows at a moment is read as that moment
pub reads_back : (dt : DateTime) (t : Timestamp) (z : ℤ) → IsMoment z → t.nanosecond ≡ z *ℤ pos 1000000 → civil_nanos dt ≡ t.nanosecond → moment_of (instant_text z) ≡ Ok z
unfolding moment_of
reads_back dt t z h e shown =
    let millis : civil_nanos dt ≡ z *ℤ pos 1000000 = shown ∙ e in
    let clock = clock_of_is dt z millis in
    let whole : dt.time.subsec_nanosecond % 1000000 ≡ 0 = omega (arith, clock.0) in
    let text = instant_text_is dt z millis in
    ap (λ x. moment_from (parse_timestamp x)) (sym text) ∙ ap moment_from (timestamp-three dt t whole shown) ∙ ap (λ n. moment_within (int_div_euclid n (pos 1000000))) e ∙ ap moment_within (whole_millis z) ∙ within-moment z h
