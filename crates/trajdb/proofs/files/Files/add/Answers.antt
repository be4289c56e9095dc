use Rattle.std.proofs.Common.{ℕ, List, Vec, Global, String, ◌≡◌, ◌∙◌, ap, sym, None, map, subst, ◌++◌, ◌∷◌, []}
use Rattle.std.specs.Option.{is_some}
use Rattle.std.specs.String.{string_bytes}
use Rattle.std.specs.Prelude.{bytes_eq}
use Rattle.std.specs.Map.{lookup}
use Rattle.trajdb.specs.Script.{file_named, files_with}
use Rattle.trajdb.proofs.FileLemmas.{file_named-seen, seen, seen-insert, files_with-there, files_with-new, is_some-map, none_is}
use Rattle.trajdb.proofs.files.Files.add.Goals as goal

-- whether a file is there
there : (name : List ℕ) (es : List (String Global × Vec ℕ Global)) → is_some (file_named (map seen es) name) ≡ is_some (lookup (λ (k : String Global). bytes_eq name (string_bytes k)) es)
there name es = ap is_some (sym (file_named-seen name es)) ∙ is_some-map (λ (v : Vec ℕ Global). v.items) (lookup (λ (k : String Global). bytes_eq name (string_bytes k)) es)

pub returns-then-contains_key-clause-ok : goal.returns-then-contains_key-clause-ok
returns-then-contains_key-clause-ok c =
    let is = there c.args.name.now c.self.inside.files.entries ∙ sym c.contains_key.ensures ∙ c.if-contains_key.true in
    rw (← c.self.view_is) (sym (files_with-there (map seen c.self.inside.files.entries) c.args.name.now c.args.bytes.items is))

pub returns-clause-ok : goal.returns-clause-ok
returns-clause-ok c =
    let is = there c.args.name.now c.self.inside.files.entries ∙ sym c.contains_key.ensures ∙ c.if-contains_key.false in
    let name = c.in_ok-name.ensures.ok in
    let es = c.self.inside.files.entries in
    let none = none_is (lookup (λ (k : String Global). bytes_eq c.args.name.now (string_bytes k)) es) (sym c.contains_key.ensures ∙ c.if-contains_key.false) in
    let absent = subst (λ (bs : List ℕ). lookup (λ (k : String Global). bytes_eq bs (string_bytes k)) es ≡ None) (sym name) none in
    ap (map seen) c.in_ok-insert.ensures.entries ∙ seen-insert c.in_ok-name.name c.args.bytes es absent ∙ ap (λ (n : List ℕ). map seen es ++ (n, c.args.bytes.items) ∷ []) name
    ∙ sym (files_with-new (map seen es) c.args.name.now c.args.bytes.items is) ∙ ap (λ fs. files_with fs c.args.name.now c.args.bytes.items) c.self.view_is
