-- What is answered with Ok.
use Rattle.std.proofs.Common.{◌≡◌, subst, sym, false, Result, Ok, Err, OnOk, OnErr, IfErr}
use Rattle.std.specs.Result.{is_ok, is_err}
use Rattle.std.proofs.lemmas.Bool.{true≢false}

pub on_any : {T E P : Type 0} (r : Result T E) → P → OnOk r P
on_any {T} {E} {P} r h = elim r as (λ r. OnOk r P) [ Ok x ↦ h | Err e ↦ tt ]

pub on_none : {T E : Type 0} (P : Type 0) (r : Result T E) → is_ok r ≡ false → OnOk r P
on_none P r e = (elim r as (λ r. is_ok r ≡ false → OnOk r P) [ Ok x ↦ λ e. absurd (true≢false e) | Err x ↦ λ e. tt ]) e

pub on_ok : {T E P Q : Type 0} (r : Result T E) → (P → Q) → OnOk r P → OnOk r Q
on_ok {T} {E} {P} {Q} r f h = (elim r as (λ r. OnOk r P → OnOk r Q) [ Ok x ↦ λ h. f h | Err e ↦ λ h. h ]) h

pub from_ok : {T E P : Type 0} (r : Result T E) → is_err r ≡ false → OnOk r P → P
from_ok {T} {E} {P} r e h = (elim r as (λ r. is_err r ≡ false → OnOk r P → P) [ Ok x ↦ λ e h. h | Err x ↦ λ e h. absurd (true≢false e) ]) e h

pub on_fault : {T E P : Type 0} (r : Result T E) → P → OnErr r P
on_fault {T} {E} {P} r h = elim r as (λ r. OnErr r P) [ Ok x ↦ tt | Err e ↦ h ]

pub the_error : {T E : Type 0} (P : E → Type 0) (r : Result T E) (e : E) → r ≡ Err e → OnErr r (IfErr r P) → P e
the_error P (Ok x) e h p = absurd cc
the_error P (Err x) e h p = subst (λ r. IfErr r P) h p

pub on_err : {T E P Q : Type 0} (r : Result T E) → (P → Q) → OnErr r P → OnErr r Q
on_err {T} {E} {P} {Q} r f h = (elim r as (λ r. OnErr r P → OnErr r Q) [ Ok x ↦ λ h. tt | Err e ↦ λ h. f h ]) h

-- of two things that are the same the one that is seen
abbrev pub seen_of : {A : Type 0} {a b : A} → a ≡ b → A
seen_of {a = a} e = a

-- what is said of a thing, and of an answer about it, is said of those that are the same
pub of_same : {A B : Type 0} {a b : A} {x y : B} (P : A → B → Type 0) → a ≡ b → y ≡ x → P a x → P b y
of_same {b = b} {x = x} P e w h = subst (λ r. P b r) (sym w) (subst (λ i. P i x) e h)
