-- Texts that grow and shrink at their end.
use Rattle.std.proofs.Common.{ℕ, suc, ◌≡◌, ◌∙◌, ◌+◌, ◌-◌, ◌<◌, ◌≤◌, Bool, true, false, List, [], ◌∷◌, ◌++◌, length, take, get_or, if◌then◌else◌, ℤ, pos, flat_map, refl, sym, ap, append-nil, append_assoc, length-append, Some, None, unwrap_or, unsigned_abs, arith, subst, All, Result, Ok, Err, OnOk, IfErr}
use Rattle.std.specs.Result.{IsErrAnd}
use Rattle.std.proofs.lemmas.List.Elements.{All-get_or}
use Rattle.std.proofs.lemmas.List.{flat_map_more, take_all, take_more}
use Rattle.std.specs.Int.{int_div_euclid, int_rem_euclid}
use Rattle.timebase.specs.Instant.{is_moment, some_moment}
use Rattle.timebase.specs.InstantText.{instant_text, date_text_at, day_of, clock_text_at, ms_of_day}
use Rattle.trajdb.specs.Calls.{IsText}
use Rattle.trajdb.specs.declared.RunFault.{RunFault}
use Rattle.trajdb.specs.declared.RunFault.TheVariants.{Memory, Damaged, Failed}
use Rattle.reports.specs.Printing.{IsPrintFault}
use Rattle.writer.specs.File.{features_text}
use Rattle.writer.specs.Records.{record_text}
use Rattle.reports.specs.StayTexts.{micros_text, quoted_text, three_digits, without_last}

-- the last byte is one of those that came last
pub last_of_append : (xs ys : List ℕ) → 0 < length ys → without_last (xs ++ ys) ≡ xs ++ without_last ys
unfolding without_last
last_of_append [] ys some = refl
last_of_append (x ∷ xs) ys some =
    let shorter : length (x ∷ (xs ++ ys)) - 1 ≡ suc (length (xs ++ ys) - 1) = omega (arith, some, length-append xs ys) in
    ap (λ k. take k (x ∷ (xs ++ ys))) shorter ∙ ap (λ (t : List ℕ). x ∷ t) (last_of_append xs ys some)

-- what ends by a byte has one
ends_longer : (xs : List ℕ) (b : ℕ) → 0 < length (xs ++ b ∷ [])
ends_longer xs b = omega (arith, length-append xs (b ∷ []))

instant_longer : (at : ℤ) → 0 < length (instant_text at)
unfolding instant_text
instant_longer at = ends_longer (date_text_at (day_of at) ++ 84 ∷ clock_text_at (ms_of_day at)) 90

record_longer : (fields : List (List ℕ)) → 0 < length (record_text fields)
record_longer fields = grind (arith, length-append)

-- an instant without its last byte
pub last_of_instant : (xs : List ℕ) (at : ℤ) → without_last (xs ++ instant_text at) ≡ xs ++ without_last (instant_text at)
last_of_instant xs at = last_of_append xs (instant_text at) (instant_longer at)

-- a name's record without its last byte
pub last_of_features : (xs name : List ℕ) → without_last (xs ++ features_text (name ∷ [])) ≡ xs ++ quoted_text name
unfolding quoted_text
last_of_features xs name =
    ap (λ (t : List ℕ). without_last (xs ++ t)) (append-nil (record_text (name ∷ []))) ∙ last_of_append xs (record_text (name ∷ [])) (record_longer (name ∷ []))

-- a moment that is given is the one that was asked for
moment_given : (is_one : Bool) (asked given : ℤ) → Some given ≡ (if is_one then Some asked else None) → given ≡ asked
moment_given true asked given told = ap (λ o. unwrap_or o asked) told
moment_given false asked given told = ap (λ o. unwrap_or o asked) told

-- a comma, an instant without its last byte, three digits and a `Z`
pub micros_made : (old one two three all : List ℕ) (micros at : ℤ) (rest : ℕ) → Some at ≡ some_moment (int_div_euclid micros (pos 1000)) → rest ≡ unsigned_abs (int_rem_euclid micros (pos 1000)) → one ≡ old ++ 44 ∷ [] → two ≡ one ++ without_last (instant_text at)
    → three ≡ two ++ three_digits rest → all ≡ three ++ 90 ∷ [] → all ≡ old ++ 44 ∷ micros_text micros
unfolding micros_text
micros_made old one two three all micros at rest told rest_is a b c d =
    let at_is : at ≡ int_div_euclid micros (pos 1000) = moment_given (is_moment (int_div_euclid micros (pos 1000))) (int_div_euclid micros (pos 1000)) at told in
    rw (d, c, b, a, rest_is, at_is) (simp append_assoc refl)

-- four fields one behind another
pub four_fields : (old one two three all a b c d : List ℕ) → one ≡ old ++ 44 ∷ a → two ≡ one ++ 44 ∷ b → three ≡ two ++ 44 ∷ c → all ≡ three ++ 44 ∷ d → all ≡ old ++ 44 ∷ (a ++ 44 ∷ b ++ 44 ∷ c ++ 44 ∷ d)
four_fields old one two three all a b c d p q r s = rw (s, r, q, p) (simp append_assoc refl)

-- the parts of a line of field names, one behind another
pub line_of_parts : (old one two three four all a b c d e : List ℕ) → one ≡ old ++ a → two ≡ one ++ b → three ≡ two ++ c → four ≡ three ++ d → all ≡ four ++ e → all ≡ old ++ (a ++ b ++ c ++ d ++ e)
line_of_parts old one two three four all a b c d e p q r s t = rw (t, s, r, q, p) (simp append_assoc refl)

-- a comma and a field
pub behind_comma : (old one all a : List ℕ) → one ≡ old ++ 44 ∷ [] → all ≡ one ++ a → all ≡ old ++ 44 ∷ a
behind_comma old one all a p q = rw (q, p) (simp append_assoc refl)

-- the parts of a fraction behind a comma
pub fraction_of_parts : (old one two three all a b : List ℕ) → one ≡ old ++ 44 ∷ [] → two ≡ one ++ a → three ≡ two ++ 47 ∷ [] → all ≡ three ++ b → all ≡ old ++ 44 ∷ (a ++ (47 ∷ []) ++ b)
fraction_of_parts old one two three all a b p q r s = rw (s, r, q, p) (simp append_assoc refl)

-- the parts of a dwell's record, which come in two steps
pub dwell_of_parts : (old one all a b c d e f : List ℕ) → one ≡ old ++ a ++ b → all ≡ one ++ c ++ d ++ e ++ f → all ≡ old ++ (a ++ b ++ c ++ d ++ e ++ f)
dwell_of_parts old one all a b c d e f p q = rw (q, p) (simp append_assoc refl)

-- the parts of a stay's record, which come in three steps
pub stay_of_parts : (old one two all a b c d e f g : List ℕ) → one ≡ old ++ a ++ b → two ≡ one ++ c ++ d ++ e ++ f → all ≡ two ++ g → all ≡ old ++ (a ++ b ++ c ++ d ++ e ++ f ++ g)
stay_of_parts old one two all a b c d e f g p q r = rw (r, q, p) (simp append_assoc refl)

-- the parts of a visit's record, which come in two steps
pub visit_of_parts : (old one all a b c d e f g h : List ℕ) → one ≡ old ++ a ++ b → all ≡ one ++ c ++ d ++ e ++ f ++ g ++ h → all ≡ old ++ (a ++ b ++ c ++ d ++ e ++ f ++ g ++ h)
visit_of_parts old one all a b c d e f g h p q = rw (q, p) (simp append_assoc refl)

-- the texts of one element more
pub texts_more : {X : Type 0} (f : X → List ℕ) (start : List ℕ) (xs : List X) (i : ℕ) (x : X) (before after : List ℕ) → i < length xs → before ≡ start ++ flat_map f (take i xs) → after ≡ before ++ f (get_or xs i x) → after ≡ start ++ flat_map f (take (i + 1) xs)
texts_more {X = X} f start xs i x before after within so_far more =
    more ∙ ap (λ (t : List ℕ). t ++ f (get_or xs i x)) so_far ∙ flat_map_more f start (take i xs) (get_or xs i x) ∙ ap (λ (ys : List X). start ++ flat_map f ys) (sym (take_more xs i x within))

-- of one that is told by its place
pub texts_with : {X : Type 0} (f : X → List ℕ) (start : List ℕ) (xs : List X) (i : ℕ) (x : X) (before after : List ℕ) → i < length xs → x ≡ get_or xs i x → before ≡ start ++ flat_map f (take i xs) → after ≡ before ++ f x → after ≡ start ++ flat_map f (take (i + 1) xs)
texts_with {X = X} f start xs i x before after within there so_far more = texts_more f start xs i x before after within so_far (more ∙ ap (λ (y : X). before ++ f y) there)

-- and of all
pub texts_all : {X : Type 0} (f : X → List ℕ) (old : List ℕ) (xs : List X) (i : ℕ) (text : List ℕ) → length xs ≤ i → text ≡ old ++ flat_map f (take i xs) → text ≡ old ++ flat_map f xs
texts_all {X = X} f old xs i text past so_far = so_far ∙ ap (λ (ys : List X). old ++ flat_map f ys) (take_all i xs past)

-- what a `?` gives back is the fault that it met
pub kept_fault : {A : Type 0} (F : RunFault → Type 0) (r : Result A RunFault) (fault : RunFault) → IsErrAnd r (λ e. e ≡ fault) → F fault → IfErr r F
kept_fault F (Ok a) fault told known = absurd told
kept_fault F (Err e) fault told known = subst F (sym told) known

-- what is so in any case is so where there is a value
pub on_ok_always : {A P : Type 0} (r : Result A RunFault) → P → OnOk r P
on_ok_always (Ok a) p = p
on_ok_always (Err e) p = tt

-- of what can be printed, memory alone was wanting
pub memory_alone : (P : Type 0) (fault : RunFault) → P → IsPrintFault P fault → fault ≡ Memory
memory_alone P Memory there told = refl
memory_alone P Failed there told = absurd (told there)
memory_alone P _ there told = absurd told

-- why a part of a text was not made is why the whole was not
pub whole_text : (P Q : Type 0) (fault : RunFault) → (Q → P) → IsText P fault → IsText Q fault
whole_text P Q Memory part told = tt
whole_text P Q (Damaged page) part told = (told.0, λ q. told.1 (part q))
whole_text P Q _ part told = absurd told

-- and so it is of an element and all
pub text_of_all : {X : Type 0} (P : X → Type 0) (xs : List X) (i : ℕ) (x : X) (fault : RunFault) → i < length xs → x ≡ get_or xs i x → IsText (P x) fault → IsText (All P xs) fault
text_of_all P xs i x fault within there told =
    whole_text (P x) (All P xs) fault (λ all. subst P (sym there) (All-get_or P xs i x within all)) told

-- and so it is of one that is told by its place alone
pub text_of_place : {X : Type 0} (P : X → Type 0) (xs : List X) (i : ℕ) (d : X) (fault : RunFault) → i < length xs → IsText (P (get_or xs i d)) fault → IsText (All P xs) fault
text_of_place P xs i d fault within told = whole_text (P (get_or xs i d)) (All P xs) fault (λ all. All-get_or P xs i d within all) told
