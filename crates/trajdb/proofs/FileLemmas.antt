-- Named files, and the names of records.
use Rattle.std.proofs.Common.{ℕ, ◌≡◌, ◌++◌, ◌∷◌, [], List, map, ap, refl, Bool, true, false, cond, Option, Some, None, inl, inr, String, Global, Vec}
use Rattle.std.specs.Prelude.{bytes_eq, is_some}
use Rattle.std.specs.Option.{option_map}
use Rattle.std.specs.Map.{lookup}
use Rattle.std.specs.String.{string_bytes, string_eq}
use Rattle.std.proofs.lemmas.Bool.{cases_Bool}
use Rattle.indexmap.specs.IndexMap.{insert_entry}
use Rattle.trajdb.specs.Script.{file_named, files_with}

-- a file as contracts see it
abbrev pub seen : String Global × Vec ℕ Global → List ℕ × List ℕ
seen file = (string_bytes file.0, file.1.items)

pub file_named-seen : (name : List ℕ) (es : List (String Global × Vec ℕ Global)) → option_map (λ (v : Vec ℕ Global). v.items) (lookup (λ (k : String Global). bytes_eq name (string_bytes k)) es) ≡ file_named (map seen es) name
file_named-seen name [] = refl
file_named-seen name (e ∷ es) =
    elim (cases_Bool (bytes_eq name (string_bytes e.0))) [
      | inl e1 ↦ rw e1 refl
      | inr e0 ↦ rw e0 (file_named-seen name es)
    ]

pub seen-insert : (k : String Global) (v : Vec ℕ Global) (es : List (String Global × Vec ℕ Global)) → lookup (λ (q : String Global). bytes_eq (string_bytes k) (string_bytes q)) es ≡ None
    → map seen (insert_entry string_eq es k v) ≡ map seen es ++ (string_bytes k, v.items) ∷ []
seen-insert k v [] h = refl
seen-insert k v (e ∷ es) h = by (bytes_eq (string_bytes k) (string_bytes e.0)) refl h (seen-insert k v es)
  where
    by : (b : Bool) → bytes_eq (string_bytes k) (string_bytes e.0) ≡ b → cond (bytes_eq (string_bytes k) (string_bytes e.0)) (Some e.1) (lookup (λ (q : String Global). bytes_eq (string_bytes k) (string_bytes q)) es) ≡ None
        → (lookup (λ (q : String Global). bytes_eq (string_bytes k) (string_bytes q)) es ≡ None → map seen (insert_entry string_eq es k v) ≡ map seen es ++ (string_bytes k, v.items) ∷ [])
        → map seen (cond (string_eq k e.0) ((e.0, v) ∷ es) (e ∷ insert_entry string_eq es k v)) ≡ map seen (e ∷ es) ++ (string_bytes k, v.items) ∷ []
    by true e1 g more = absurd (let n : Some e.1 ≡ None = rw e1 at g in cc)
    by false e0 g more =
        let rest : lookup (λ (q : String Global). bytes_eq (string_bytes k) (string_bytes q)) es ≡ None = rw e0 at g in
        let other : string_eq k e.0 ≡ false = e0 in
        rw other (ap (λ files. seen e ∷ files) (more rest))

-- a file that is there
pub files_with-there : (files : List (List ℕ × List ℕ)) (name bytes : List ℕ) → is_some (file_named files name) ≡ true → files_with files name bytes ≡ files
files_with-there files name bytes e = ap (λ b. cond b files (files ++ (name, bytes) ∷ [])) e

pub files_with-new : (files : List (List ℕ × List ℕ)) (name bytes : List ℕ) → is_some (file_named files name) ≡ false → files_with files name bytes ≡ files ++ (name, bytes) ∷ []
files_with-new files name bytes e = ap (λ b. cond b files (files ++ (name, bytes) ∷ [])) e

pub is_some-map : {X Y : Type 0} (f : X → Y) (o : Option X) → is_some (option_map f o) ≡ is_some o
is_some-map f (Some x) = refl
is_some-map f None = refl

pub none_is : {X : Type 0} (o : Option X) → is_some o ≡ false → o ≡ None
none_is (Some x) e = cc
none_is None e = refl
