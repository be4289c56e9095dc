-- The names of a file, with a record more.
use Rattle.std.proofs.Common.{ℕ, zero, suc, ◌+◌, ◌<◌, ◌≤◌, ◌≡◌, ◌≢◌, ◌∙◌, ap, sym, refl, List, [], ◌∷◌, ◌++◌, length, true, false, cond, arith, inl, inr, Option, Some, None, append_assoc, nat_le, map, take, String, Global}
use Rattle.std.specs.Prelude.{bytes_eq, slice_get, slice_set}
use Rattle.std.specs.String.{string_bytes, string_eq}
use Rattle.std.specs.List.{list_any}
use Rattle.std.specs.Option.{option_and_then}
use Rattle.std.proofs.lemmas.Bool.Decides.{nat_tests}
use Rattle.std.proofs.lemmas.Grind.{fold-append}
use Rattle.std.proofs.lemmas.Option.{slice_get-get_or, slice_get_within, get_or_from_slice_get}
use Rattle.std.proofs.lemmas.List.{append-nil, length_push, get_or_append_left, get_or-append_right, get_or-set_same, get_or-set_other, length-set, length-take-le, take_more}
use Rattle.legs.specs.Book.{feature_named, feature_number, names_with}
use Rattle.legs.specs.Names.{NamesView, fresh_names, met, names_and, with_latest}
use Rattle.legs.specs.declared.draft.Latest.{Latest}
use Rattle.legs.proofs.CountLemmas.{key_added}
use Rattle.legs.proofs.NameLemmas.{cases_bool, text_same, text_self, any_is_first, known_or_new, feature_of-known, feature_of-new, feature_of-with_same, feature_of-with_other, names_with-known, names_with-new, same_number}

abbrev names_view : List (List ℕ) → List Latest → NamesView
names_view names latest = record { names = names; latest = latest }

-- a name that has a place is there, and one that has none is new
pub placed : (names : List (List ℕ)) (name : List ℕ) (i : ℕ) → Some i ≡ feature_named names name → (feature_number names name < length names) × (i ≡ feature_number names name)
placed names name i e =
    elim (known_or_new names name) [
      | inl there ↦ (there, let s : Some i ≡ Some (feature_number names name) = e ∙ feature_of-known names name there in cc)
      | inr new ↦ absurd (let s : Some i ≡ None = e ∙ feature_of-new names name (omega arith) in (cc))
    ]

pub unplaced : (names : List (List ℕ)) (name : List ℕ) → None ≡ feature_named names name → feature_number names name ≡ length names
unplaced names name e =
    elim (known_or_new names name) [
      | inl there ↦ absurd (let s : Some (feature_number names name) ≡ None = sym (feature_of-known names name there) ∙ sym e in (cc))
      | inr new ↦ new
    ]

pub with_latest-names : (place : Option ℕ) (v : NamesView) (name : List ℕ) (last : Latest) → place ≡ feature_named v.names name → (with_latest place v name last).names ≡ names_with v.names name
with_latest-names (Some i) v name last e = sym (names_with-known v.names name (placed v.names name i e).0)
with_latest-names None v name last e = sym (names_with-new v.names name (unplaced v.names name e))

pub with_latest-paired : (place : Option ℕ) (v : NamesView) (name : List ℕ) (last : Latest) → length v.latest ≡ length v.names → length (with_latest place v name last).latest ≡ length (with_latest place v name last).names
with_latest-paired (Some i) v name last e = length-set v.latest i last ∙ e
with_latest-paired None v name last e = omega (arith, length_push v.latest last, length_push v.names name, e)

-- the latest of that name, and of the others
at_name : (place : Option ℕ) (v : NamesView) (name : List ℕ) (last : Latest) → place ≡ feature_named v.names name → length v.latest ≡ length v.names → slice_get (with_latest place v name last).latest (feature_number v.names name) ≡ Some last
at_name (Some i) v name last e paired =
    let p = placed v.names name i e in
    let inside : i < length v.latest = omega arith in
    let long = length-set v.latest i last in
    ap (slice_get (slice_set v.latest i last)) (sym p.1) ∙ slice_get-get_or (slice_set v.latest i last) i last (omega (arith, long)) ∙ ap Some (get_or-set_same v.latest i last last inside)
at_name None v name last e paired =
    let n = unplaced v.names name e in
    let long = length_push v.latest last in
    slice_get-get_or (v.latest ++ last ∷ []) (feature_number v.names name) last (omega (arith, long)) ∙ ap Some (get_or-append_right v.latest (last ∷ []) (length v.latest) (feature_number v.names name) last refl (omega arith) ∙ (grind (arith)))

at_other : (place : Option ℕ) (v : NamesView) (name : List ℕ) (last : Latest) (k : ℕ) → place ≡ feature_named v.names name → length v.latest ≡ length v.names → k < length v.names → k ≢ feature_number v.names name
    → slice_get (with_latest place v name last).latest k ≡ slice_get v.latest k
at_other (Some i) v name last k e paired inside other =
    let p = placed v.names name i e in
    let long = length-set v.latest i last in
    let ne : k ≢ i = λ s. other (s ∙ p.1) in
    slice_get-get_or (slice_set v.latest i last) k last (omega (arith, long)) ∙ ap Some (get_or-set_other v.latest i k last last ne) ∙ sym (slice_get-get_or v.latest k last (omega arith))
at_other None v name last k e paired inside other =
    let long = length_push v.latest last in
    slice_get-get_or (v.latest ++ last ∷ []) k last (omega (arith, long)) ∙ ap Some (get_or_append_left v.latest (last ∷ []) last k (omega arith)) ∙ sym (slice_get-get_or v.latest k last (omega arith))

-- what they tell then
pub met_more : (place : Option ℕ) (v : NamesView) (name : List ℕ) (last : Latest) → place ≡ feature_named v.names name → length v.latest ≡ length v.names → (other : List ℕ)
    → met (with_latest place v name last) other ≡ cond (bytes_eq name other) (Some last) (met v other)
met_more place v name last e paired other =
    let found : Option ℕ → Option Latest = option_and_then (slice_get (with_latest place v name last).latest) in
    ap (λ ns. found (feature_named ns other)) (with_latest-names place v name last e) ∙ elim (cases_bool (bytes_eq name other)) [
      | inl same ↦
          ap (λ o. found (feature_named (names_with v.names name) o)) (sym (text_same name other same)) ∙ ap found (feature_of-with_same v.names name) ∙ at_name place v name last e paired
          ∙ sym (ap (λ b. cond b (Some last) (met v other)) same)
      | inr differs ↦
          ap found (feature_of-with_other v.names name other differs) ∙ elim (known_or_new v.names other) [
            | inl there ↦
                let ne : feature_number v.names other ≢ feature_number v.names name = λ s. absurd (let t : bytes_eq name other ≡ true = ap (bytes_eq name) (same_number v.names other name there s) ∙ text_self name in (cc)) in
                ap found (feature_of-known v.names other there) ∙ at_other place v name last (feature_number v.names other) e paired there ne ∙ sym (ap (option_and_then (slice_get v.latest)) (feature_of-known v.names other there))
            | inr absent ↦
                let none = feature_of-new v.names other (omega arith) in
                ap found none ∙ sym (ap (option_and_then (slice_get v.latest)) none)
          ] ∙ sym (ap (λ b. cond b (Some last) (met v other)) differs)
    ]

-- the names of new features
pub fresh-set : (base : ℕ) (names : List (List ℕ)) (latest : List Latest) (i : ℕ) (last was : Latest) → slice_get latest i ≡ Some was → was.feature ≡ last.feature → fresh_names base names (slice_set latest i last) ≡ fresh_names base names latest
fresh-set base [] latest i last was e f = refl
fresh-set base (n ∷ ns) [] i last was e f = refl
fresh-set base (n ∷ ns) (l ∷ ls) zero last was e f =
    let t : Some l ≡ Some was = e in
    let s : l ≡ was = cc in
    let same : l.feature ≡ last.feature = ap (λ (x : Latest). x.feature) s ∙ f in
    ap (λ k. cond (nat_le base k) (n ∷ []) [] ++ fresh_names base ns ls) (sym same)
fresh-set base (n ∷ ns) (l ∷ ls) (suc i) last was e f = ap (λ (more : List (List ℕ)). cond (nat_le base l.feature) (n ∷ []) [] ++ more) (fresh-set base ns ls i last was e f)

pub fresh-push : (base : ℕ) (names : List (List ℕ)) (latest : List Latest) (name : List ℕ) (last : Latest) → length latest ≡ length names
    → fresh_names base (names ++ name ∷ []) (latest ++ last ∷ []) ≡ fresh_names base names latest ++ cond (nat_le base last.feature) (name ∷ []) []
fresh-push base [] [] name last e = append-nil (cond (nat_le base last.feature) (name ∷ []) [])
fresh-push base [] (l ∷ ls) name last e = absurd (omega arith)
fresh-push base (n ∷ ns) [] name last e = absurd (omega arith)
fresh-push base (n ∷ ns) (l ∷ ls) name last e =
    let first : List (List ℕ) = cond (nat_le base l.feature) (n ∷ []) [] in
    let short : length ls ≡ length ns = omega arith in
    ap (λ (more : List (List ℕ)). first ++ more) (fresh-push base ns ls name last short) ∙ sym (append_assoc first (fresh_names base ns ls) (cond (nat_le base last.feature) (name ∷ []) []))

-- a name more
pub and_more : (names more : List (List ℕ)) (name : List ℕ) → names_and names (more ++ name ∷ []) ≡ names_with (names_and names more) name
and_more names more name = fold-append names_with names more (name ∷ [])

with-longer : (names : List (List ℕ)) (name : List ℕ) → length names ≤ length (names_with names name)
with-longer names name =
    elim (known_or_new names name) [
      | inl there ↦ let e = ap length (names_with-known names name there) in omega arith
      | inr new ↦ let e = ap length (names_with-new names name new) in omega (arith, length_push names name)
    ]

pub and-longer : (names more : List (List ℕ)) → length names ≤ length (names_and names more)
and-longer names [] = omega arith
and-longer names (name ∷ more) = omega (arith, with-longer names name, and-longer (names_with names name) more)

-- a name that has no place stands in no list
pub absent : (names : List (List ℕ)) (name : List ℕ) → feature_named names name ≡ None → list_any (bytes_eq name) names ≡ false
absent names name e =
    let n = unplaced names name (sym e) in
    any_is_first (bytes_eq name) names ∙ grind (arith, nat_tests)

-- a name was pushed with its latest
pub pushed : (keys keys' : List (String Global)) (latest latest' : List Latest) (key : String Global) (name : List ℕ) (last : Latest) → feature_named (map string_bytes keys) name ≡ None → string_bytes key ≡ name
    → keys' ≡ cond (list_any (string_eq key) keys) keys (keys ++ key ∷ []) → latest' ≡ latest ++ last ∷ [] → length latest ≡ length keys
    → (length latest' ≡ length keys') × ((map string_bytes keys' ≡ map string_bytes keys ++ name ∷ []) × (latest' ≡ latest ++ last ∷ []))
pushed keys keys' latest latest' key name last none named inserted more paired =
    let free = ap (λ n. list_any (bytes_eq n) (map string_bytes keys)) named ∙ absent (map string_bytes keys) name none in
    let k = key_added keys keys' key free inserted in
    let n = length_push latest last in
    let m = ap length more in
    (omega (arith, k.1, n, m, paired), (k.0 ∙ ap (λ n. map string_bytes keys ++ n ∷ []) named, more))

pub pushed_view : (names names' : List (List ℕ)) (latest latest' : List Latest) (name : List ℕ) (last : Latest) → names' ≡ names ++ name ∷ [] → latest' ≡ latest ++ last ∷ []
    → names_view names' latest' ≡ names_view (names ++ name ∷ []) (latest ++ last ∷ [])
pushed_view names names' latest latest' name last n l = ap (λ x. names_view x latest') n ∙ ap (names_view (names ++ name ∷ [])) l

-- the names of new features, one place further
pub fresh_next : (base : ℕ) (names : List (List ℕ)) (latest : List Latest) (i : ℕ) (name : List ℕ) (last : Latest) → length latest ≡ length names → slice_get names i ≡ Some name → slice_get latest i ≡ Some last
    → fresh_names base (take (i + 1) names) (take (i + 1) latest) ≡ fresh_names base (take i names) (take i latest) ++ cond (nat_le base last.feature) (name ∷ []) []
fresh_next base names latest i name last paired n l =
    let inside = slice_get_within names i name n in
    let within = slice_get_within latest i last l in
    let one : take (i + 1) names ≡ take i names ++ name ∷ [] = take_more names i name inside ∙ ap (λ (x : List ℕ). take i names ++ x ∷ []) (get_or_from_slice_get names i name name n) in
    let two : take (i + 1) latest ≡ take i latest ++ last ∷ [] = take_more latest i last within ∙ ap (λ (x : Latest). take i latest ++ x ∷ []) (get_or_from_slice_get latest i last last l) in
    let long : length (take i latest) ≡ length (take i names) = omega (arith, length-take-le i names (omega arith), length-take-le i latest (omega arith)) in
    ap (λ ns. fresh_names base ns (take (i + 1) latest)) one ∙ ap (fresh_names base (take i names ++ name ∷ [])) two ∙ fresh-push base (take i names) (take i latest) name last long
