-- The record that is made of a group is its record.
use Rattle.std.proofs.Common.{◌≡◌, ◌<◌, ◌++◌, ◌∙◌, ◌↔◌, ◌⊎◌, ℕ, List, [], ◌∷◌, map, length, cond, Bool, true, false, Contains, inl, inr, refl, sym, ap, subst, true≢false}
use Rattle.std.specs.List.{flat_map}
use Rattle.std.proofs.lemmas.List.Concat.{flat_map-append}
use Rattle.std.proofs.lemmas.List.Elements.{Contains-append_left, Contains-append_right, Contains-append_cases}
use Rattle.lf.specs.Entries.{Entry, signature_of}
use Rattle.lf.specs.Subordination.{Below, Block, Member}
use Rattle.lf.specs.Syntax.{LfType}
use Rattle.lf.specs.Variables.{same_number, target}
use Rattle.lf.proofs.Checker.{number_is}
use Rattle.lf_checks.specs.Marks.{Mark}
use Rattle.lf_checks.specs.ModeRows.{marks_of}
use Rattle.lf_totality.specs.Group.{Checked}
use Rattle.lf_totality.specs.Record.{IsRecordOf, IsToBeFrozen, blocks_of, blocks_seen}
use Rattle.tw_clause.specs.Tables.{mode_rows_of}
use Rattle.tw_clause.specs.View.{worlds_of}
use Rattle.tw_subord.specs.Laws.{IsEntryOf}
use Rattle.tw_subord.specs.Rows.{row}
use Rattle.tw_subord.specs.View.{block_of_types, worlds_of_types}
use Rattle.tw_subord.specs.declared.subord.BlockTypes.{BlockTypes}
use Rattle.tw_subord.proofs.Direct.{is_in_row, row_has}
use Rattle.tw_subord.proofs.Quantifiers.{nothing}
use Rattle.tw_subord.proofs.Rows.{same_itself}
use Rattle.tw_subord.proofs.Strengthened.{entries_alone}
use Rattle.tw_terms.specs.View.{type_of}
use Rattle.tw_total.specs.Entries.{below_targets, entries_of, entries_of_records, rows_below, to_be_frozen}
use Rattle.tw_total.specs.View.{below_row_of, checked_of, listed_for, numbers_of}
use Rattle.tw_total.specs.declared.record.TotalRecord.{TotalRecord}

-- Members of lists put together.

pub front : {A : Type 0} (x : A) (xs ys : List A) → Member x xs → Member x (xs ++ ys)
front x [] ys m = absurd m
front x (y ∷ xs) ys (inl e) = inl e
front x (y ∷ xs) ys (inr m) = inr (front x xs ys m)

back : {A : Type 0} (x : A) (xs ys : List A) → Member x ys → Member x (xs ++ ys)
back x [] ys m = m
back x (y ∷ xs) ys m = inr (back x xs ys m)

either_part : {A : Type 0} (x : A) (xs ys : List A) → Member x (xs ++ ys) → Member x xs ⊎ Member x ys
either_part x [] ys m = inr m
either_part x (y ∷ xs) ys (inl e) = inl (inl e)
either_part x (y ∷ xs) ys (inr m) = elim (either_part x xs ys m) [ inl k ↦ inl (inr k) | inr k ↦ inr k ]

-- The entries of blocks.

pub entry_there : (W : List Block) (E : LfType) → Member E (entries_of W) → IsEntryOf W E
entry_there [] E m = absurd m
entry_there (B ∷ W) E m = elim (either_part E B.entries (entries_of W) m) [ inl k ↦ (B, inl refl, k) | inr k ↦ let r = entry_there W E k in (r.0, inr r.1, r.2) ]

pub entry_back : (W : List Block) (E : LfType) (B : Block) → Member B W → Member E B.entries → Member E (entries_of W)
entry_back [] E B m i = absurd m
entry_back (C ∷ W) E B (inl e) i = front E C.entries (entries_of W) (subst (λ (D : Block). Member E D.entries) e i)
entry_back (C ∷ W) E B (inr m) i = back E C.entries (entries_of W) (entry_back W E B m i)

records_entries : (Qs : List Checked) → entries_of (blocks_of Qs) ≡ entries_of_records Qs
records_entries [] = refl
records_entries (Q ∷ Qs) = flat_map-append (λ (B : Block). B.entries) Q.worlds (blocks_of Qs) ∙ ap (λ es. entries_of Q.worlds ++ es) (records_entries Qs)

seen_entries : (W : List Block) (Qs : List Checked) → entries_of (blocks_seen W Qs) ≡ entries_of W ++ entries_of_records Qs
seen_entries W Qs = flat_map-append (λ (B : Block). B.entries) W (blocks_of Qs) ∙ ap (λ es. entries_of W ++ es) (records_entries Qs)

-- What stands in a list of lists.

in_one : {A : Type 0} (f : A → List ℕ) (xs : List A) (b : ℕ) → Contains (flat_map f xs) b → (x : A) × Member x xs × Contains (f x) b
in_one f [] b h = absurd (nothing b h)
in_one f (x ∷ xs) b h = elim (Contains-append_cases (f x) (flat_map f xs) b h) [ inl k ↦ (x, inl refl, k) | inr k ↦ let r = in_one f xs b k in (r.0, inr r.1, r.2) ]

of_one : {A : Type 0} (f : A → List ℕ) (xs : List A) (b : ℕ) (x : A) → Member x xs → Contains (f x) b → Contains (flat_map f xs) b
of_one f [] b x m h = absurd m
of_one f (y ∷ xs) b x (inl e) h = Contains-append_left (f y) (flat_map f xs) b (subst (λ z. Contains (f z) b) e h)
of_one f (y ∷ xs) b x (inr m) h = Contains-append_right (f y) (flat_map f xs) b (of_one f xs b x m h)

-- the row of a family of the group
listed : (s : List (List ℕ)) (fs : List ℕ) (f : ℕ) → Member f fs → listed_for (rows_below s fs) f ≡ row s f
listed s [] f m = absurd m
listed s (g ∷ fs) f m = go (λ k. listed s fs f k) (same_number g f) refl m
  where
    go : (Member f fs → listed_for (rows_below s fs) f ≡ row s f) → (t : Bool) → same_number g f ≡ t → (f ≡ g) ⊎ Member f fs → cond t (row s g) (listed_for (rows_below s fs) f) ≡ row s f
    go rest true e k = ap (row s) (number_is g f e)
    go rest false e (inl q) = absurd (true≢false (sym (ap (λ h. same_number h f) (sym q) ∙ same_itself f) ∙ e))
    go rest false e (inr k) = rest k

module _ (es : List Entry) (group : List ℕ) (m : ℕ → List Mark) (W : List Block) (totals : List Checked) (seen : BlockTypes) (s : List (List ℕ))
    (entries : map type_of seen.types.items ≡ entries_of W ++ entries_of_records totals)
    (below : (a b : ℕ) → b < length es → (Contains (row s b) a) ↔ Below (signature_of es) (worlds_of_types (seen ∷ [])) a b)
    (within : (f : ℕ) → Member f group → f < length es)
    (targets_within : (E : LfType) → Member E (entries_of W) → target E < length es) where
  there : (E : LfType) → IsEntryOf (worlds_of_types (seen ∷ [])) E → IsEntryOf (blocks_seen W totals) E
  there E (B, inl e, i) = entry_there (blocks_seen W totals) E (subst (Member E) (entries ∙ sym (seen_entries W totals)) (subst (λ (C : Block). Member E C.entries) e i))
  there E (B, inr z, i) = absurd z

  here : (E : LfType) → IsEntryOf (blocks_seen W totals) E → IsEntryOf (worlds_of_types (seen ∷ [])) E
  here E (B, k, i) = (block_of_types seen, inl refl, subst (Member E) (sym (entries ∙ sym (seen_entries W totals))) (entry_back (blocks_seen W totals) E B k i))

  in_row : (a b : ℕ) → b < length es → (Contains (row s b) a) ↔ Below (signature_of es) (blocks_seen W totals) a b
  in_row a b l = (
    λ h. entries_alone (signature_of es) (worlds_of_types (seen ∷ [])) (blocks_seen W totals) there a b ((below a b l).0 h),
    λ h. (below a b l).1 (entries_alone (signature_of es) (blocks_seen W totals) (worlds_of_types (seen ∷ [])) here a b h),
  )

  frozen_there : (b : ℕ) → Contains (to_be_frozen s group W) b → IsToBeFrozen (signature_of es) (blocks_seen W totals) group W b
  frozen_there b h = elim (Contains-append_cases (flat_map (row s) group) (below_targets s (entries_of W)) b h) [
    | inl k ↦ let r = in_one (row s) group b k in inl (r.0, r.1, (in_row b r.0 (within r.0 r.1)).0 r.2)
    | inr k ↦ let r = in_one (λ E. row s (target E)) (entries_of W) b k in let q = entry_there W r.0 r.1 in inr (q.0, r.0, q.1, q.2, (in_row b (target r.0) (targets_within r.0 r.1)).0 r.2)
  ]

  frozen_here : (b : ℕ) → IsToBeFrozen (signature_of es) (blocks_seen W totals) group W b → Contains (to_be_frozen s group W) b
  frozen_here b (inl (f, k, h)) = Contains-append_left (flat_map (row s) group) (below_targets s (entries_of W)) b (of_one (row s) group b f k ((in_row b f (within f k)).1 h))
  frozen_here b (inr (B, E, k, i, h)) =
      let e = entry_back W E B k i in
      Contains-append_right (flat_map (row s) group) (below_targets s (entries_of W)) b (of_one (λ E. row s (target E)) (entries_of W) b E e ((in_row b (target E) (targets_within E e)).1 h))

  pub record_made : (r : TotalRecord) → numbers_of r.families.items ≡ group → marks_of (mode_rows_of r.modes) ≡ m → worlds_of r.worlds ≡ W → map below_row_of r.below.items ≡ rows_below s group → ((b : ℕ) → (Contains (numbers_of r.frozen.items) b) ↔ Contains (to_be_frozen s group W) b) → IsRecordOf (signature_of es) group m W totals (checked_of r)
  record_made r f k w b z =
      record {
        families = f;
        marks = k;
        worlds = w;
        below = λ g i x. let e = ap (λ rows. listed_for rows g) b ∙ listed s group g i in (
          λ h. (in_row x g (within g i)).0 (subst (λ xs. Contains xs x) e (is_in_row x (listed_for (map below_row_of r.below.items) g) h)),
          λ h. row_has x (listed_for (map below_row_of r.below.items) g) (subst (λ xs. Contains xs x) (sym e) ((in_row x g (within g i)).1 h)),
        );
        frozen = λ x. (
          λ h. frozen_there x ((z x).0 (is_in_row x (numbers_of r.frozen.items) h)),
          λ h. row_has x (numbers_of r.frozen.items) ((z x).1 (frozen_here x h)),
        );
      }
