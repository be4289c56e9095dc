-- Tracks, and how they take in a file.
use Rattle.std.proofs.Common.{ℕ, ◌+◌, ◌≡◌, ◌∙◌, ap, sym, refl, List, [], ◌∷◌, ◌++◌, length, map, take, Bool, true, false, cond, inl, inr, append_assoc, String, Global}
use Rattle.std.specs.Prelude.{bytes_eq, All}
use Rattle.std.specs.String.{string_bytes, string_eq}
use Rattle.std.specs.List.{list_any}
use Rattle.std.proofs.lemmas.Grind.{fold-append}
use Rattle.std.proofs.lemmas.List.{append-nil, length_push, map_push, take_at}
use Rattle.std.proofs.lemmas.List.Elements.{All-append}
use Rattle.legs.specs.Book.{names_with}
use Rattle.legs.specs.Tracks.{TracksView}
use Rattle.legs.specs.Counting.{Extends, AddsNames}
use Rattle.legs.specs.Names.{names_and}
use Rattle.legs.specs.declared.tracks.Track.{Track}
use Rattle.legs.proofs.NameLemmas.{cases_bool}

any-map : {X Y : Type 0} (p : Y → Bool) (f : X → Y) (xs : List X) → list_any p (map f xs) ≡ list_any (λ x. p (f x)) xs
any-map p f [] = refl
any-map p f (x ∷ xs) = elim (cases_bool (p (f x))) [
  | inl e ↦ rw e refl
  | inr e ↦ rw e (any-map p f xs)
]

-- the names with one that is there, and with one that is not
pub names_with-there : (keys : List (String Global)) (name : List ℕ) (t : Bool) → t ≡ list_any (λ k. bytes_eq name (string_bytes k)) keys → t ≡ true → map string_bytes keys ≡ names_with (map string_bytes keys) name
names_with-there keys name t e holds =
    let is : list_any (bytes_eq name) (map string_bytes keys) ≡ true = any-map (bytes_eq name) string_bytes keys ∙ sym e ∙ holds in
    sym (ap (λ b. cond b (map string_bytes keys) (map string_bytes keys ++ name ∷ [])) is)

names_with-more : (names : List (List ℕ)) (name : List ℕ) → (more : List (List ℕ)) × (names_with names name ≡ names ++ more)
names_with-more names name = elim (cases_bool (list_any (bytes_eq name) names)) [
  | inl e ↦ ([], rw e (sym (append-nil names)))
  | inr e ↦ (name ∷ [], rw e refl)
]

-- one name, with a track or without
pub adds_one : (t t' : TracksView) (name : List ℕ) (fresh : List Track) → t'.names ≡ names_with t.names name
    → t'.tracks ≡ t.tracks ++ fresh → All (λ track. track.legs ≡ 0) fresh → t'.legs ≡ t.legs → t'.rows ≡ t.rows → AddsNames t t' (name ∷ [])
adds_one t t' name fresh names tracks none legs rows =
    let more = names_with-more t.names name in
    record {
      extends = record { more_names = (more.0, names ∙ more.1); more_tracks = (fresh, tracks, none); legs = legs; rows = rows };
      names = names;
    }

pub extends_trans : (a b c : TracksView) → Extends a b → Extends b c → Extends a c
extends_trans a b c p q = record {
  more_names = (
    p.more_names.0 ++ q.more_names.0,
    q.more_names.1 ∙ ap (λ (ns : List (List ℕ)). ns ++ q.more_names.0) p.more_names.1 ∙ append_assoc a.names p.more_names.0 q.more_names.0,
  );
  more_tracks = (
    p.more_tracks.0 ++ q.more_tracks.0,
    q.more_tracks.1 ∙ ap (λ (ts : List Track). ts ++ q.more_tracks.0) p.more_tracks.1 ∙ append_assoc a.tracks p.more_tracks.0 q.more_tracks.0,
    All-append (λ (track : Track). track.legs ≡ 0) p.more_tracks.0 q.more_tracks.0 p.more_tracks.2 q.more_tracks.2,
  );
  legs = q.legs ∙ p.legs;
  rows = q.rows ∙ p.rows;
}

pub adds_append : (a b c : TracksView) (xs ys : List (List ℕ)) → AddsNames a b xs → AddsNames b c ys → AddsNames a c (xs ++ ys)
adds_append a b c xs ys p q = record {
  extends = extends_trans a b c p.extends q.extends;
  names = q.names ∙ ap (λ ns. names_and ns ys) p.names ∙ sym (fold-append names_with a.names xs ys);
}

abbrev view : List (List ℕ) → List Track → ℕ → ℕ → TracksView
view names tracks legs rows = record { names = names; tracks = tracks; legs = legs; rows = rows }

same_view : (a b : TracksView) → a.names ≡ b.names → a.tracks ≡ b.tracks → a.legs ≡ b.legs → a.rows ≡ b.rows → a ≡ b
same_view a b p q r s =
    let one : view a.names a.tracks a.legs a.rows ≡ view b.names a.tracks a.legs a.rows = ap (λ x. view x a.tracks a.legs a.rows) p in
    one ∙ ap (λ x. view b.names x a.legs a.rows) q ∙ ap (λ x. view b.names b.tracks x a.rows) r ∙ ap (λ x. view b.names b.tracks b.legs x) s

-- taking back what was added
pub taken_back : (old new back : TracksView) (known : ℕ) → Extends old new → known ≡ length old.names → length old.tracks ≡ length old.names → back.names ≡ take known new.names → back.tracks ≡ take known new.tracks → back.legs ≡ new.legs → back.rows ≡ new.rows → back ≡ old
taken_back old new back known more count paired names tracks legs rows =
    same_view back old (names ∙ ap (take known) more.more_names.1 ∙ take_at old.names more.more_names.0 known (sym count)) (tracks ∙ ap (take known) more.more_tracks.1 ∙ take_at old.tracks more.more_tracks.0 known (paired ∙ sym count))
    (legs ∙ more.legs) (rows ∙ more.rows)

-- a name that was inserted
pub names_inserted : (keys keys' : List (String Global)) (key : String Global) (name : List ℕ) (t : Bool) → t ≡ list_any (λ k. bytes_eq name (string_bytes k)) keys → t ≡ false → string_bytes key ≡ name
    → keys' ≡ cond (list_any (string_eq key) keys) keys (keys ++ key ∷ []) → (map string_bytes keys' ≡ names_with (map string_bytes keys) name) × (length keys' ≡ length keys + 1)
names_inserted keys keys' key name t e fails named inserted =
    let absent : list_any (λ k. bytes_eq name (string_bytes k)) keys ≡ false = sym e ∙ fails in
    let new : list_any (string_eq key) keys ≡ false = ap (λ n. list_any (λ k. bytes_eq n (string_bytes k)) keys) named ∙ absent in
    let end : keys' ≡ keys ++ key ∷ [] = inserted ∙ ap (λ b. cond b keys (keys ++ key ∷ [])) new in
    let is : list_any (bytes_eq name) (map string_bytes keys) ≡ false = any-map (bytes_eq name) string_bytes keys ∙ absent in (
      ap (map string_bytes) end ∙ map_push string_bytes keys key ∙ ap (λ n. map string_bytes keys ++ n ∷ []) named ∙ sym (ap (λ b. cond b (map string_bytes keys) (map string_bytes keys ++ name ∷ [])) is),
      ap length end ∙ length_push keys key,
    )

-- whether a name is there
pub name_there : (keys : List (String Global)) (name seen : List ℕ) (t : Bool) → seen ≡ name → t ≡ list_any (λ k. bytes_eq seen (string_bytes k)) keys → list_any (bytes_eq name) (map string_bytes keys) ≡ t
name_there keys name seen t same e = ap (λ n. list_any (bytes_eq n) (map string_bytes keys)) (sym same) ∙ any-map (bytes_eq seen) string_bytes keys ∙ sym e

-- a name that was not there stands at the end
pub key_added : (keys keys' : List (String Global)) (key : String Global) → list_any (bytes_eq (string_bytes key)) (map string_bytes keys) ≡ false → keys' ≡ cond (list_any (string_eq key) keys) keys (keys ++ key ∷ [])
    → (map string_bytes keys' ≡ map string_bytes keys ++ string_bytes key ∷ []) × (length keys' ≡ length keys + 1)
key_added keys keys' key none inserted =
    let new : list_any (string_eq key) keys ≡ false = sym (any-map (bytes_eq (string_bytes key)) string_bytes keys) ∙ none in
    let end : keys' ≡ keys ++ key ∷ [] = inserted ∙ ap (λ b. cond b keys (keys ++ key ∷ [])) new in
    (ap (map string_bytes) end ∙ map_push string_bytes keys key, ap length end ∙ length_push keys key)

-- a feature more
pub feature_added : (names names' : List (List ℕ)) (tracks tracks' : List Track) (legs rows : ℕ) (name : List ℕ) (track : Track) → names' ≡ names ++ name ∷ [] → tracks' ≡ tracks ++ track ∷ []
    → view names' tracks' legs rows ≡ view (names ++ name ∷ []) (tracks ++ track ∷ []) legs rows
feature_added names names' tracks tracks' legs rows name track n k = same_view (view names' tracks' legs rows) (view (names ++ name ∷ []) (tracks ++ track ∷ []) legs rows) n k refl refl
