use Rattle.std.proofs.Common.{ℕ, ◌≡◌, ◌≤◌, ◌*◌, ◌^◌, ◌∙◌, ap, sym, subst, length, arith, rules, FitsSigned, w64, List}
use Rattle.std.proofs.lemmas.Int.{to_z-of_z}
use Rattle.std.proofs.lemmas.Result.{err_from_is_err_and}
use Rattle.fixedpoint.specs.Number.{is_negative, signed, unsigned_text}
use Rattle.fixedpoint.specs.Laws.{IsNearest}
use Rattle.fixedpoint.specs.Steps.{IsMagnitude, IsRefused}
use Rattle.fixedpoint.proofs.NumberLemmas.{number_long, number_refused, number_past, number_is, number_nearest}
use Rattle.fixedpoint.specs.declared.NumberFault.{NumberFault}
use Rattle.fixedpoint.specs.declared.reading.Scale.{Scale}
use Rattle.fixedpoint.proofs.reading.read_number.Goals as goal

-- how many units 1 is
abbrev units : Scale → ℕ
units scale = scale.factor * 10 ^ scale.places

-- what was read of the unsigned text is read of the text's
of_text : (s : ℕ) (t bs u : List ℕ) (m : ℕ) → bs ≡ t → u ≡ unsigned_text bs → IsMagnitude s u m → IsMagnitude s (unsigned_text t) m
of_text s t bs u m e f is = subst (λ x. IsMagnitude s x m) (f ∙ ap unsigned_text e) is

refused_text : (t bs u : List ℕ) (e : NumberFault) → bs ≡ t → u ≡ unsigned_text bs → IsRefused u e → IsRefused (unsigned_text t) e
refused_text t bs u e q f is = subst (λ x. IsRefused x e) (f ∙ ap unsigned_text q) is

-- the length of the text
short : (t bs : List ℕ) → bs ≡ t → length bs ≤ 40 → length t ≤ 40
short t bs e h = omega (arith, ap length e)

pub returns-then-bytes-gt-LONGEST-clause-value : goal.returns-then-bytes-gt-LONGEST-clause-value
returns-then-bytes-gt-LONGEST-clause-value c = sym (number_long (units c.args.scale) c.args.text.now (omega (arith, ap length c.as_bytes-bytes.ensures.value)))

pub returns-in_err-magnitude-clause-value : goal.returns-in_err-magnitude-clause-value
returns-in_err-magnitude-clause-value c =
    let is = refused_text c.args.text.now _ _ _ c.as_bytes-bytes.ensures.value c.without_sign-negative.ensures.rest c.in_err-magnitude.ensures.refused in
    let here = short c.args.text.now _ c.as_bytes-bytes.ensures.value c.if-bytes-gt-LONGEST.false in
    let number = number_refused (units c.args.scale) c.args.text.now here is.parts in
    let p = err_from_is_err_and c.from_residual.result c.from_residual.ensures.1 in
    rw (p.1, p.2, is.shape) (sym number)

pub returns-then-magnitude-gt-MOST_UNITS-clause-value : goal.returns-then-magnitude-gt-MOST_UNITS-clause-value
returns-then-magnitude-gt-MOST_UNITS-clause-value c =
    let is = of_text (units c.args.scale) c.args.text.now _ _ _ c.as_bytes-bytes.ensures.value c.without_sign-negative.ensures.rest c.in_ok-magnitude.ensures.value in
    let here = short c.args.text.now _ c.as_bytes-bytes.ensures.value c.if-bytes-gt-LONGEST.false in
    sym (number_past (units c.args.scale) c.args.text.now c.in_ok-magnitude.magnitude here is c.if-magnitude-gt-MOST_UNITS.true)

pub returns-clause-value : goal.returns-clause-value
returns-clause-value c =
    let is = of_text (units c.args.scale) c.args.text.now _ _ _ c.as_bytes-bytes.ensures.value c.without_sign-negative.ensures.rest c.in_ok-magnitude.ensures.value in
    let here = short c.args.text.now _ c.as_bytes-bytes.ensures.value c.if-bytes-gt-LONGEST.false in
    let n : c.without_sign-negative.result.0 ≡ is_negative c.args.text.now = c.without_sign-negative.ensures.negative ∙ ap is_negative c.as_bytes-bytes.ensures.value in
    let fits : FitsSigned w64 c.with_sign.result = search rules in
    rw (to_z-of_z w64 c.with_sign.result fits, c.with_sign.ensures, n) (sym (number_is (units c.args.scale) c.args.text.now c.in_ok-magnitude.magnitude here is c.if-magnitude-gt-MOST_UNITS.false))

pub returns-clause-nearest : goal.returns-clause-nearest
returns-clause-nearest c =
    let is = of_text (units c.args.scale) c.args.text.now _ _ _ c.as_bytes-bytes.ensures.value c.without_sign-negative.ensures.rest c.in_ok-magnitude.ensures.value in
    let n : c.without_sign-negative.result.0 ≡ is_negative c.args.text.now = c.without_sign-negative.ensures.negative ∙ ap is_negative c.as_bytes-bytes.ensures.value in
    let fits : FitsSigned w64 c.with_sign.result = search rules in
    let same = to_z-of_z w64 c.with_sign.result fits ∙ c.with_sign.ensures ∙ ap (λ b. signed b c.in_ok-magnitude.magnitude) n in
    subst (λ z. IsNearest (units c.args.scale) c.args.text.now z) (sym same) (number_nearest (units c.args.scale) c.args.text.now c.in_ok-magnitude.magnitude is c.if-magnitude-gt-MOST_UNITS.false)
