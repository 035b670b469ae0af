-- What clap's rows hold of the steps and the files.
use Rattle.std.proofs.Common.{◌≡◌, ◌∙◌, ℕ, Bool, true, false, List, [], ◌∷◌, ◌++◌, None, Some, is_some, refl, ap, codes}
use Rattle.std.specs.Prelude.{find, option_and_then, option_map, slice_get, unwrap_or, if◌then◌else◌}
use Rattle.std.specs.Str.{bytes_eq}
use Rattle.std.specs.declared.option.Option.{Option}
use Rattle.std.proofs.lemmas.Slice.Eq.{bytes_eq-Decides}
use Rattle.clap.specs.Walk.{Row, all_of, first_of, has_row, used, with_values, without}
use Rattle.clap.specs.declared.builder.value_parser.Reading.{Reading}
use Rattle.clap.specs.declared.parser.matches.ValueSource.{ValueSource}
use Rattle.tw_words.proofs.Walked.{files_arg, steps_arg}

abbrev pub steps_id : List ℕ
steps_id = codes "steps"

abbrev pub files_id : List ℕ
files_id = codes "files"

abbrev pub row_with : List ℕ → List Row → Option Row
row_with id rows = find (λ r. bytes_eq r.id id) rows

-- the rows have this value for the steps, and these files
pub record HasSaid (rows : List Row) (steps : Option (List ℕ)) (files : List (List ℕ)) : Type 0 where
  pub steps_are : first_of steps_id rows ≡ steps
  pub no_steps : steps ≡ None → row_with steps_id rows ≡ None
  pub files_are : unwrap_or (all_of files_id rows) [] ≡ files

pub nothing-said : HasSaid [] None []
nothing-said = record { steps_are = refl; no_steps = λ e. refl; files_are = refl }

-- a row is there where it is found
pub has_row-found : (id : List ℕ) (rows : List Row) → has_row id rows ≡ is_some (row_with id rows)
has_row-found id [] = refl
has_row-found id (r ∷ rs) = go (bytes_eq r.id id) refl (has_row-found id rs) where
  go : (b : Bool) → bytes_eq r.id id ≡ b → has_row id rs ≡ is_some (row_with id rs) → has_row id (r ∷ rs) ≡ is_some (row_with id (r ∷ rs))
  go true e ih = rw e refl
  go false e ih = rw e ih

-- the row of another id stays
module _ (id other : List ℕ) (apart : (x : List ℕ) → bytes_eq x id ≡ true → bytes_eq x other ≡ false) (how : Reading) (source : ValueSource) (values : List (List ℕ)) where
  pub other-kept : bytes_eq id other ≡ false → (rows : List Row) → row_with other (with_values id how source values rows) ≡ row_with other rows
  other-kept new [] = rw new refl
  other-kept new (r ∷ rs) = go (bytes_eq r.id id) refl (other-kept new rs) where
    go : (b : Bool) → bytes_eq r.id id ≡ b → row_with other (with_values id how source values rs) ≡ row_with other rs
        → row_with other (with_values id how source values (r ∷ rs)) ≡ row_with other (r ∷ rs)
    go true e ih = rw (e, apart r.id e) refl
    go false e ih = rw e (ap (λ o. if bytes_eq r.id other then Some r else o) ih)

-- a row with no row before it
pub absent-stays : (id : List ℕ) (rows : List Row) → row_with id rows ≡ None → without id rows ≡ rows
absent-stays id [] none = refl
absent-stays id (r ∷ rs) none = go (bytes_eq r.id id) refl none (absent-stays id rs) where
  go : (b : Bool) → bytes_eq r.id id ≡ b → row_with id (r ∷ rs) ≡ None → (row_with id rs ≡ None → without id rs ≡ rs) → without id (r ∷ rs) ≡ r ∷ rs
  go true e found ih =
      let bad : Some r ≡ None = rw e at found in
      cc
  go false e found ih = rw e (ap (λ l. r ∷ l) (ih (rw e at found)))

pub new-value : (id : List ℕ) (how : Reading) (source : ValueSource) (v : List ℕ) (rows : List Row) → bytes_eq id id ≡ true → row_with id rows ≡ None
    → first_of id (with_values id how source (v ∷ []) rows) ≡ Some v
new-value id how source v [] same none = rw same refl
new-value id how source v (r ∷ rs) same none = go (bytes_eq r.id id) refl none (new-value id how source v rs same) where
  go : (b : Bool) → bytes_eq r.id id ≡ b → row_with id (r ∷ rs) ≡ None → (row_with id rs ≡ None → first_of id (with_values id how source (v ∷ []) rs) ≡ Some v)
      → first_of id (with_values id how source (v ∷ []) (r ∷ rs)) ≡ Some v
  go true e found ih =
      let bad : Some r ≡ None = rw e at found in
      cc
  go false e found ih = rw (e, e) (ih (rw e at found))

-- one more value for an id
pub more-values : (id : List ℕ) (how : Reading) (source : ValueSource) (values : List (List ℕ)) (rows : List Row) → bytes_eq id id ≡ true
    → unwrap_or (all_of id (with_values id how source values rows)) [] ≡ unwrap_or (all_of id rows) [] ++ values
more-values id how source values [] same = rw same refl
more-values id how source values (r ∷ rs) same = go (bytes_eq r.id id) refl (more-values id how source values rs same) where
  go : (b : Bool) → bytes_eq r.id id ≡ b → unwrap_or (all_of id (with_values id how source values rs)) [] ≡ unwrap_or (all_of id rs) [] ++ values
      → unwrap_or (all_of id (with_values id how source values (r ∷ rs))) [] ≡ unwrap_or (all_of id (r ∷ rs)) [] ++ values
  go true e ih = rw (e, e) refl
  go false e ih = rw (e, e) ih

steps_apart : (x : List ℕ) → bytes_eq x steps_id ≡ true → bytes_eq x files_id ≡ false
steps_apart x e = let same : x ≡ steps_id = (bytes_eq-Decides x steps_id).0 e in rw same refl

files_apart : (x : List ℕ) → bytes_eq x files_id ≡ true → bytes_eq x steps_id ≡ false
files_apart x e = let same : x ≡ files_id = (bytes_eq-Decides x files_id).0 e in rw same refl

-- the steps are given once
pub steps-used : (rows : List Row) (files : List (List ℕ)) (v : List ℕ) → HasSaid rows None files → HasSaid (used steps_arg (v ∷ []) rows) (Some v) files
steps-used rows files v said =
    let none = said.no_steps refl in
    let stays : without steps_id rows ≡ rows = absent-stays steps_id rows none in
    record {
      steps_are = rw stays (new-value steps_id _ _ v rows refl none);
      no_steps = λ e. cc;
      files_are = rw stays (ap (λ o. unwrap_or (option_map (λ (r : Row). r.values) o) []) (other-kept steps_id files_id steps_apart _ _ (v ∷ []) refl rows) ∙ said.files_are);
    }

-- one more file
pub files-used : (rows : List Row) (steps : Option (List ℕ)) (files : List (List ℕ)) (f : List ℕ) → HasSaid rows steps files → HasSaid (used files_arg (f ∷ []) rows) steps (files ++ f ∷ [])
files-used rows steps files f said =
    let kept = other-kept files_id steps_id files_apart _ _ (f ∷ []) refl rows in
    record {
      steps_are = ap (λ o. option_and_then (λ (r : Row). slice_get r.values 0) o) kept ∙ said.steps_are;
      no_steps = λ e. kept ∙ said.no_steps e;
      files_are = more-values files_id _ _ (f ∷ []) rows refl ∙ ap (λ l. l ++ f ∷ []) said.files_are;
    }

-- where steps were given there is a row
pub steps-row : (rows : List Row) (old : List ℕ) (files : List (List ℕ)) → HasSaid rows (Some old) files → has_row steps_id rows ≡ true
steps-row rows old files said = has_row-found steps_id rows ∙ go (row_with steps_id rows) refl said.steps_are where
  go : (o : Option Row) → row_with steps_id rows ≡ o → first_of steps_id rows ≡ Some old → is_some o ≡ true
  go None e first =
      let bad : None ≡ Some old = rw e at first in
      cc
  go (Some r) e first = refl
