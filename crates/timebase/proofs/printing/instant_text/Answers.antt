use Rattle.std.proofs.Common.{◌≡◌, ◌∙◌, ◌++◌, ap, ℤ, pos, ◌*ℤ◌, rules, FitsSigned, w64, false, Some, None, List, ℕ, Bool, Option}
use Rattle.std.proofs.lemmas.Int.{to_z-of_z}
use Rattle.jiff.specs.Types.{DateTime, Timestamp}
use Rattle.jiff.specs.Words.{datetime_text, civil_nanos}
use Rattle.jiff_fmt.specs.Text.{zulu_text}
use Rattle.timebase.specs.InstantText.{instant_text}
use Rattle.timebase.specs.Instant.{IsMoment}
use Rattle.timebase.proofs.CalendarLemmas.{instant_text_is}
use Rattle.timebase.proofs.ReadsBackLemmas.{reads_back}
use Rattle.timebase.proofs.printing.instant_text.Goals as goal

-- a printer with three places, over the milliseconds z
printed : (lower : Bool) (separator : ℕ) (precision : Option ℕ) (nanos z : ℤ) (text : List ℕ) → ◌≡◌ {A = Bool × ℕ × Option ℕ} (lower, separator, precision) (false, 84, Some 3) → nanos ≡ z *ℤ pos 1000000
    → (dt : DateTime) × (civil_nanos dt ≡ nanos) × (text ≡ datetime_text lower separator precision dt ++ zulu_text lower) → text ≡ instant_text z
printed lower separator precision nanos z text options e (dt, shown, same) =
    let l : lower ≡ false = ap (λ (p : Bool × ℕ × Option ℕ). p.0) options in
    let s : separator ≡ 84 = ap (λ (p : Bool × ℕ × Option ℕ). p.1) options in
    let p : precision ≡ Some 3 = ap (λ (p : Bool × ℕ × Option ℕ). p.2) options in
    same ∙ (rw (l, s, p) (instant_text_is dt z (shown ∙ e)))

three : (l : Bool) (s : ℕ) (o : Option ℕ) (l' : Bool) (s' : ℕ) (o' : Option ℕ) → ◌≡◌ {A = Bool × ℕ × Option ℕ} (l, s, o) (false, 84, None)
    → ◌≡◌ {A = Bool × ℕ × Option ℕ} (l', s', o') (l, s, Some 3) → ◌≡◌ {A = Bool × ℕ × Option ℕ} (l', s', o') (false, 84, Some 3)
three l s o l' s' o' e f = f ∙ ap (λ (p : Bool × ℕ × Option ℕ). let q : Bool × ℕ × Option ℕ = (p.0, p.1, Some 3) in q) e

pub returns-clause-text : goal.returns-clause-text
returns-clause-text c =
    let options : ◌≡◌ {A = Bool × ℕ × Option ℕ} (c.precision.result.lowercase, c.precision.result.separator, c.precision.result.precision) (false, 84, Some 3) =
    three _ _ _ c.precision.result.lowercase c.precision.result.separator c.precision.result.precision c.new.ensures c.precision.ensures in
    let f : FitsSigned w64 c.at.inside.millis = search rules in
    let nanos : c.to_plain.result.nanosecond ≡ c.args.at *ℤ pos 1000000 =
    ap (λ (t : Timestamp). t.nanosecond) c.to_plain.ensures ∙ c.in-Ok.ensures.value ∙ ap (λ z. z *ℤ pos 1000000) (to_z-of_z w64 c.at.inside.millis f ∙ c.at.view_is) in
    printed c.precision.result.lowercase c.precision.result.separator c.precision.result.precision c.to_plain.result.nanosecond c.args.at c.timestamp_text.result.bytes
    options nanos c.timestamp_text.ensures

pub returns-clause-reads_back : goal.returns-clause-reads_back
returns-clause-reads_back c =
    let f : FitsSigned w64 c.at.inside.millis = search rules in
    let t : Timestamp = c.to_plain.result in
    let nanos : t.nanosecond ≡ c.args.at *ℤ pos 1000000 =
    ap (λ (t : Timestamp). t.nanosecond) c.to_plain.ensures ∙ c.in-Ok.ensures.value ∙ ap (λ z. z *ℤ pos 1000000) (to_z-of_z w64 c.at.inside.millis f ∙ c.at.view_is) in
    let moment : IsMoment c.args.at = search rules in
    reads_back c.timestamp_text.ensures.0 t c.args.at moment nanos c.timestamp_text.ensures.1
