-- The answers of the whole.
use Rattle.std.proofs.Common.{◌≡◌, ℕ, List, [], ◌∷◌, ◌++◌, map, reverse, Bool, true, false, Some, ◌⊎◌, inl, inr, ◌↔◌, if◌then◌else◌, refl, sym, ap, ◌∙◌, subst}
use Rattle.std.proofs.lemmas.List.{append-nil, reverse-append, reverse-reverse}
use Rattle.std.specs.Str.{bytes_eq}
use Rattle.lf.specs.Syntax.{Skeleton, base}
use Rattle.tw_approx.specs.Answer.{Rows, frees_of, HasRow, AreDistinct, AreSame, FitsDeeply, FitsOnce, FitsTwice, NeverFits}
use Rattle.tw_approx.specs.Readings.{Reading}
use Rattle.tw_approx.specs.Skeletons.{Frees}
use Rattle.tw_approx.specs.Solving.{IsFound, IsLeftOpen, IsSolved, AreOpen, AreAlways, RowsAreAlways, numbers_of}
use Rattle.tw_approx.specs.Walks.{Assignment, State, Variables, empty_state, HasVariable, NamesDiffer, Agrees, IsSound, Reads, Refuses}
use Rattle.tw_approx.specs.declared.fault.ApproxFault.TheVariants.{TooDeep}
use Rattle.tw_shapes.specs.Shapes.{Solves, HasSolution, empty_store}
use Rattle.tw_approx.proofs.Naming.{name_is, is_name}

-- each assignment solves the store without variables
pub empty_solves : (θ : Assignment) → Solves θ empty_store
empty_solves θ = record { holds = λ m S e. cc }

some_assignment : Assignment
some_assignment m = base 0

pub empty_sound : IsSound empty_state
empty_sound = record { context = tt; variables = tt; omitted = tt; differ = tt }

either_way : {A B C : Type 0} → A ↔ (B ⊎ C) → (B → ⊥) → A ↔ C
either_way {A} {B} {C} e n = (λ a. elim (e.0 a) as (λ _. C) [ inl b ↦ absurd (n b) | inr c ↦ c ], λ c. e.1 (inr c))

-- where the whole text is read from the start
pub all_found : {A : Type 0} (R : Frees → List Skeleton → Reading A) (F : List ℕ → Type 0) (t : State) (v : Assignment → A) → Reads (λ f θ. R f) F empty_state t v → IsFound (λ f o. (k : A) × (R f o ≡ Some (k, []))) F t
all_found {A} R F t v r = record {
  sound = r.sound;
  free = λ x. either_way (r.free x) (λ b. b);
  fits = λ f θ h g.
      let e : map θ t.omitted ≡ map θ r.more ++ [] = ap (map θ) r.added ∙ sym (append-nil (map θ r.more)) in
      (v θ, ap (R f) e ∙ r.reads f θ [] h g);
  every = λ f p k.
      let i = r.every f some_assignment p k.0 [] (empty_solves some_assignment) tt k.1 in
      (i.0, i.2, i.3, i.4 ∙ append-nil (map i.0 r.more) ∙ ap (map i.0) (sym r.added));
}

pub none_found : {A : Type 0} (R : Frees → List Skeleton → Reading A) → Refuses (λ f θ. R f) empty_state → NeverFits (λ f o. (k : A) × (R f o ≡ Some (k, [])))
none_found R r f p k = r.never f some_assignment p k.0 [] (empty_solves some_assignment) tt k.1

-- lists in the other order
has_append : (x : List ℕ) (xs ys : Variables) → HasVariable x (xs ++ ys) ↔ (HasVariable x xs ⊎ HasVariable x ys)
has_append x [] ys = (λ h. inr h, λ d. elim d as (λ _. HasVariable x ys) [ inl b ↦ absurd b | inr h ↦ h ])
has_append x ((y, m) ∷ xs) ys =
    let i = has_append x xs ys in (
      λ h. elim h as (λ _. ((y ≡ x) ⊎ HasVariable x xs) ⊎ HasVariable x ys) [ inl e ↦ inl (inl e) | inr g ↦ elim (i.0 g) as (λ _. ((y ≡ x) ⊎ HasVariable x xs) ⊎ HasVariable x ys) [ inl a ↦ inl (inr a) | inr b ↦ inr b ] ],
      λ d. elim d as (λ _. (y ≡ x) ⊎ HasVariable x (xs ++ ys)) [ inl a ↦ elim a as (λ _. (y ≡ x) ⊎ HasVariable x (xs ++ ys)) [ inl e ↦ inl e | inr g ↦ inr (i.1 (inl g)) ] | inr b ↦ inr (i.1 (inr b)) ],
    )

reversed : (p : List ℕ × ℕ) (ys : Variables) → reverse (p ∷ ys) ≡ reverse ys ++ p ∷ []
reversed p ys = reverse-append (p ∷ []) ys

pub has_reversed : (x : List ℕ) (ys : Variables) → HasVariable x (reverse ys) ↔ HasVariable x ys
has_reversed x [] = (λ h. h, λ h. h)
has_reversed x ((y, m) ∷ ys) =
    let i = has_reversed x ys in
    let a = has_append x (reverse ys) ((y, m) ∷ []) in
    let r = reversed (y, m) ys in (
      λ h. elim (a.0 (subst (HasVariable x) r h)) as (λ _. (y ≡ x) ⊎ HasVariable x ys) [ inl g ↦ inr (i.0 g) | inr g ↦ elim g as (λ _. (y ≡ x) ⊎ HasVariable x ys) [ inl e ↦ inl e | inr b ↦ absurd b ] ],
      λ h. subst (HasVariable x) (sym r) (elim h as (λ _. HasVariable x (reverse ys ++ (y, m) ∷ [])) [ inl e ↦ a.1 (inr (inl e)) | inr g ↦ a.1 (inl (i.1 g)) ]),
    )

agrees_append : (f : Frees) (θ : Assignment) (xs ys : Variables) → Agrees f θ (xs ++ ys) ↔ (Agrees f θ xs × Agrees f θ ys)
agrees_append f θ [] ys = (λ h. (tt, h), λ h. h.1)
agrees_append f θ ((y, m) ∷ xs) ys = let i = agrees_append f θ xs ys in (λ h. let j = i.0 h.1 in ((h.0, j.0), j.1), λ h. (h.0.0, i.1 (h.0.1, h.1)))

pub agrees_reversed : (f : Frees) (θ : Assignment) (ys : Variables) → Agrees f θ (reverse ys) ↔ Agrees f θ ys
agrees_reversed f θ [] = (λ h. h, λ h. h)
agrees_reversed f θ ((y, m) ∷ ys) =
    let i = agrees_reversed f θ ys in
    let a = agrees_append f θ (reverse ys) ((y, m) ∷ []) in
    let r = reversed (y, m) ys in (
      λ h. let j = a.0 (subst (Agrees f θ) r h) in (j.1.0, i.0 j.0),
      λ h. subst (Agrees f θ) (sym r) (a.1 (i.1 h.1, (h.0, tt))),
    )

differ_append : (xs : Variables) (y : List ℕ) (m : ℕ) → NamesDiffer (xs ++ (y, m) ∷ []) → NamesDiffer xs × (HasVariable y xs → ⊥)
differ_append [] y m d = (tt, λ h. h)
differ_append ((z, n) ∷ xs) y m (d, e) =
    let i = differ_append xs y m e in
    let a = has_append z xs ((y, m) ∷ []) in (
      (λ h. d (a.1 (inl h)), i.0),
      λ h. elim h as (λ _. ⊥) [ inl s ↦ d (a.1 (inr (inl (sym s)))) | inr g ↦ i.1 g ],
    )

pub differ_reversed : (ys : Variables) → NamesDiffer (reverse ys) → NamesDiffer ys
differ_reversed [] d = d
differ_reversed ((y, m) ∷ ys) d =
    let i = differ_append (reverse ys) y m (subst NamesDiffer (reversed (y, m) ys) d) in
    (λ h. i.1 ((has_reversed y ys).1 h), differ_reversed ys i.0)

-- the rows that an assignment gives
abbrev pub rows_under : Assignment → Variables → Rows
rows_under θ xs = map (λ p. (p.0, θ p.1)) xs

pub has_row : (x : List ℕ) (θ : Assignment) (xs : Variables) → HasRow x (rows_under θ xs) ↔ HasVariable x xs
has_row x θ [] = (λ h. h, λ h. h)
has_row x θ ((y, m) ∷ xs) =
    let i = has_row x θ xs in (
      λ h. elim h as (λ _. (y ≡ x) ⊎ HasVariable x xs) [ inl e ↦ inl e | inr g ↦ inr (i.0 g) ],
      λ h. elim h as (λ _. (y ≡ x) ⊎ HasRow x (rows_under θ xs)) [ inl e ↦ inl e | inr g ↦ inr (i.1 g) ],
    )

pub rows_distinct : (θ : Assignment) (xs : Variables) → NamesDiffer xs → AreDistinct (rows_under θ xs)
rows_distinct θ [] d = tt
rows_distinct θ ((y, m) ∷ xs) (d, e) = (λ h. d ((has_row y θ xs).0 h), rows_distinct θ xs e)

frees_first : (y x : List ℕ) (k : Skeleton) (rows : Rows) → y ≡ x → frees_of ((y, k) ∷ rows) x ≡ k
frees_first y x k rows e = ap (λ b. if b then k else frees_of rows x) (is_name y x e)

frees_later : (y x : List ℕ) (k : Skeleton) (rows : Rows) (b : Bool) → bytes_eq y x ≡ b → (y ≡ x → ⊥) → (if b then k else frees_of rows x) ≡ frees_of rows x
frees_later y x k rows true e n = absurd (n (name_is y x e))
frees_later y x k rows false e n = refl

-- they say what the assignment says
agrees_later : (f g : Frees) (θ : Assignment) (xs : Variables) → ((x : List ℕ) → HasVariable x xs → g x ≡ f x) → Agrees f θ xs → Agrees g θ xs
agrees_later f g θ [] e a = tt
agrees_later f g θ ((x, m) ∷ xs) e (a, b) = (e x (inl refl) ∙ a, agrees_later f g θ xs (λ y h. e y (inr h)) b)

pub rows_agree : (θ : Assignment) (xs : Variables) → NamesDiffer xs → Agrees (frees_of (rows_under θ xs)) θ xs
rows_agree θ [] d = tt
rows_agree θ ((y, m) ∷ xs) (d, e) = (
  frees_first y y (θ m) (rows_under θ xs) refl,
  agrees_later (frees_of (rows_under θ xs)) (frees_of ((y, θ m) ∷ rows_under θ xs)) θ xs
      (λ x h. frees_later y x (θ m) (rows_under θ xs) (bytes_eq y x) refl (λ s. d (subst (λ z. HasVariable z xs) (sym s) h))) (rows_agree θ xs e),
)

-- two choices that agree with assignments
first_of_equal : (p q : List ℕ × Skeleton) (ps qs : Rows) → (p ∷ ps) ≡ (q ∷ qs) → p ≡ q
first_of_equal p q ps qs e = cc

pub agree_same : (f g : Frees) (θ ρ : Assignment) (xs : Variables) → rows_under θ xs ≡ rows_under ρ xs → Agrees f θ xs → Agrees g ρ xs → (x : List ℕ) → HasVariable x xs → f x ≡ g x
agree_same f g θ ρ [] e a b x h = absurd h
agree_same f g θ ρ ((y, m) ∷ xs) e (a, c) (b, d) x h =
    let left : List ℕ × Skeleton = (y, θ m) in
    let right : List ℕ × Skeleton = (y, ρ m) in
    let p : left ≡ right = first_of_equal left right (rows_under θ xs) (rows_under ρ xs) e in
    let rest : rows_under θ xs ≡ rows_under ρ xs = cc in
    elim h as (λ _. f x ≡ g x) [
      | inl s ↦ ap f (sym s) ∙ a ∙ ap (λ (r : List ℕ × Skeleton). r.1) p ∙ sym b ∙ ap g s
      | inr i ↦ agree_same f g θ ρ xs rest c d x i
    ]

pub same_numbers : (f g : Frees) (θ ρ : Assignment) (xs : Variables) → ((x : List ℕ) → HasVariable x xs → f x ≡ g x) → Agrees f θ xs → Agrees g ρ xs → map θ (numbers_of xs) ≡ map ρ (numbers_of xs)
same_numbers f g θ ρ [] e a b = refl
same_numbers f g θ ρ ((y, m) ∷ xs) e (a, c) (b, d) =
    let p : θ m ≡ ρ m = sym a ∙ e y (inl refl) ∙ b in
    let rest = same_numbers f g θ ρ xs (λ x h. e x (inr h)) c d in
    cc (p, rest)

module _ (F : List ℕ → Type 0) (Fit : Frees → List Skeleton → Type 0) (t : State) (ys : Variables) (e : reverse ys ≡ t.variables) (found : IsFound Fit F t) where
  agrees_of : (f : Frees) (θ : Assignment) → Agrees f θ ys → Agrees f θ t.variables
  agrees_of f θ a = subst (Agrees f θ) e ((agrees_reversed f θ ys).1 a)

  agrees_from : (f : Frees) (θ : Assignment) → Agrees f θ t.variables → Agrees f θ ys
  agrees_from f θ a = (agrees_reversed f θ ys).0 (subst (Agrees f θ) (sym e) a)

  has_of : (x : List ℕ) → HasVariable x ys ↔ F x
  has_of x = (
    λ h. (found.free x).0 (subst (HasVariable x) e ((has_reversed x ys).1 h)),
    λ h. (has_reversed x ys).0 (subst (HasVariable x) (sym e) ((found.free x).1 h)),
  )

  differ : NamesDiffer ys
  differ = differ_reversed ys (subst NamesDiffer (sym e) found.sound.differ)

  skeletons_under : (θ : Assignment) → Solves θ t.store → ((ρ : Assignment) → Solves ρ t.store → rows_under ρ ys ≡ rows_under θ ys) → ((ρ : Assignment) → Solves ρ t.store → map ρ t.omitted ≡ map θ t.omitted) → FitsOnce F Fit (rows_under θ ys) (map θ t.omitted)
  skeletons_under θ h rows omitted = record {
    row_is_free = λ x r. (has_of x).0 ((has_row x θ ys).0 r);
    free_has_row = λ x r. (has_row x θ ys).1 ((has_of x).1 r);
    distinct = rows_distinct θ ys differ;
    fits = found.fits (frees_of (rows_under θ ys)) θ h (agrees_of (frees_of (rows_under θ ys)) θ (rows_agree θ ys differ));
    only = λ f p fit.
        let i = found.every f p fit in
        record {
          frees = λ x r. agree_same f (frees_of (rows_under θ ys)) i.0 θ ys (rows i.0 i.1) (agrees_from f i.0 i.2) (rows_agree θ ys differ) x ((has_of x).1 r);
          omitted = i.3 ∙ omitted i.0 i.1;
        };
  }

  -- the skeletons that each solution gives
  fits_once : (rows : Rows) (ks : List Skeleton) → HasSolution t.store → RowsAreAlways t.store ys rows → AreAlways t.store t.omitted ks → FitsOnce F Fit rows ks
  fits_once rows ks (θ, h) r o =
      subst (λ rs. FitsOnce F Fit rs ks) (r θ h)
      (subst (FitsOnce F Fit (rows_under θ ys)) (o θ h) (skeletons_under θ h (λ ρ g. r ρ g ∙ sym (r θ h)) (λ ρ g. o ρ g ∙ sym (o θ h))))

  -- two solutions that differ
  loose_under : (θ ρ : Assignment) → Solves θ t.store → Solves ρ t.store → (AreSame F (frees_of (rows_under θ ys)) (frees_of (rows_under ρ ys)) (map θ t.omitted) (map ρ t.omitted) → ⊥) → FitsTwice F Fit
  loose_under θ ρ h g n = record {
    first = frees_of (rows_under θ ys);
    second = frees_of (rows_under ρ ys);
    first_omitted = map θ t.omitted;
    second_omitted = map ρ t.omitted;
    first_fits = found.fits (frees_of (rows_under θ ys)) θ h (agrees_of (frees_of (rows_under θ ys)) θ (rows_agree θ ys differ));
    second_fits = found.fits (frees_of (rows_under ρ ys)) ρ g (agrees_of (frees_of (rows_under ρ ys)) ρ (rows_agree ρ ys differ));
    differ = n;
  }

  omitted_twice : AreOpen t.store t.omitted → FitsTwice F Fit
  omitted_twice o = loose_under o.first o.second o.first_solves o.second_solves (λ s. o.differ s.omitted)

  free_twice : AreOpen t.store (numbers_of ys) → FitsTwice F Fit
  free_twice o =
      loose_under o.first o.second o.first_solves o.second_solves
      (λ s. o.differ (same_numbers (frees_of (rows_under o.first ys)) (frees_of (rows_under o.second ys)) o.first o.second ys (λ x h. s.frees x ((has_of x).0 h)) (rows_agree o.first ys differ) (rows_agree o.second ys differ)))

-- what the solved store says of what was found
module _ (F : List ℕ → Type 0) (Fit : Frees → List Skeleton → Type 0) (t : State) (found : IsFound Fit F t) where
  pub solved_once : (rows : Rows) (ks : List Skeleton) → IsSolved t rows ks → FitsOnce F Fit rows ks
  solved_once rows ks s = fits_once F Fit t (reverse t.variables) (reverse-reverse t.variables) found rows ks s.solution s.free s.omitted

  pub open_twice : AreOpen t.store t.omitted ⊎ AreOpen t.store (numbers_of (reverse t.variables)) → FitsTwice F Fit
  open_twice o =
      elim o as (λ _. FitsTwice F Fit) [
        | inl a ↦ omitted_twice F Fit t (reverse t.variables) (reverse-reverse t.variables) found a
        | inr b ↦ free_twice F Fit t (reverse t.variables) (reverse-reverse t.variables) found b
      ]

  pub deep_once : IsLeftOpen t TooDeep → FitsDeeply F Fit
  deep_once d = record { rows = d.0; omitted = d.1; once = solved_once d.0 d.1 d.2; deep = d.3 }
