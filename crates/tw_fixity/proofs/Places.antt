-- The map of places keeps to the scope.
use Rattle.std.proofs.Common.{◌≡◌, ℕ, suc, ◌<◌, ◌-◌, List, [], ◌∷◌, ◌++◌, length, map, reverse, Bool, true, false, cond, if◌then◌else◌, ◌||◌, Option, Some, None, refl, sym, ap, ◌∙◌, arith}
use Rattle.std.specs.Option.{is_some, option_map, option_copied}
use Rattle.std.specs.Str.{bytes_eq}
use Rattle.std.specs.Cmp.Lexicographic.{bytes_decides}
use Rattle.std.specs.Borrow.{Bor}
use Rattle.std.proofs.lemmas.List.{reverse-append, map-append}
use Rattle.tw_fixity.specs.Names.{Names, is_name, is_in_scope, variable_of}
use Rattle.tw_fixity.specs.Places.{place_of, place_behind, AreShadowed}
use Rattle.tw_fixity.specs.declared.scope.Binder.{Binder}

abbrev pub names_of : List Binder → Names
names_of bs = map (λ b. b.name) bs

some_cond : (c : Bool) (k : ℕ) (o : Option ℕ) → is_some (cond c (Some k) o) ≡ (c || is_some o)
some_cond true k o = refl
some_cond false k o = refl

pub in_scope : (bs : List Binder) (x : List ℕ) → is_some (place_of bs x) ≡ is_in_scope (names_of bs) x
in_scope [] x = refl
in_scope (b ∷ bs) x = some_cond (is_name b.name x) (length bs) (place_of bs x) ∙ ap (λ c. is_name b.name x || c) (in_scope bs x)

some_inj : {x y : ℕ} → Some x ≡ Some y → x ≡ y
some_inj e = cc

place_by : (c : Bool) (l k : ℕ) (o : Option ℕ) → ((j : ℕ) → o ≡ Some j → j < l) → cond c (Some l) o ≡ Some k → k < suc l
place_by true l k o h e = let i = some_inj e in omega (arith, i)
place_by false l k o h e = let i = h k e in omega (arith, i)

-- a place is that of a variable in scope
pub within : (bs : List Binder) (x : List ℕ) (k : ℕ) → place_of bs x ≡ Some k → k < length bs
within [] x k e = absurd cc
within (b ∷ bs) x k e = place_by (is_name b.name x) (length bs) k (place_of bs x) (within bs x) e

further : (l : ℕ) (o v : Option ℕ) → ((j : ℕ) → o ≡ Some j → j < l) → v ≡ option_map (λ p. l - 1 - p) o → option_map suc v ≡ option_map (λ p. suc l - 1 - p) o
further l None v h e = ap (option_map suc) e
further l (Some j) v h e = let i = h j refl in ap (option_map suc) e ∙ ap Some (omega (arith, i))

variable_by : (n : Option (List ℕ)) (ns : Names) (x : List ℕ) (l : ℕ) (o : Option ℕ) → ((j : ℕ) → o ≡ Some j → j < l) → variable_of ns x ≡ option_map (λ p. l - 1 - p) o
    → variable_of (n ∷ ns) x ≡ option_map (λ p. suc l - 1 - p) (cond (is_name n x) (Some l) o)
variable_by None ns x l o h e = further l o (variable_of ns x) h e
variable_by (Some y) ns x l o h e = by_name (bytes_eq y x)
  where
    first : Some 0 ≡ Some (suc l - 1 - l)
    first = ap Some (omega arith)

    by_name : (c : Bool) → (if c then Some 0 else option_map suc (variable_of ns x)) ≡ option_map (λ p. suc l - 1 - p) (cond c (Some l) o)
    by_name true = first
    by_name false = further l o (variable_of ns x) h e

-- the variable is as far in as its place is from the inner end
pub variable_at : (bs : List Binder) (x : List ℕ) → variable_of (names_of bs) x ≡ option_map (λ p. length bs - 1 - p) (place_of bs x)
variable_at [] x = refl
variable_at (b ∷ bs) x = variable_by b.name (names_of bs) x (length bs) (place_of bs x) (within bs x) (variable_at bs x)

left_by : (c : Bool) (x y : List ℕ) (bs : List Binder) (o : Option ℕ) (l : ℕ) → bytes_eq x y ≡ c → o ≡ place_of bs x → cond c o (cond c (Some l) (place_of bs y)) ≡ place_of bs y
left_by true x y bs o l e h = h ∙ ap (place_of bs) ((bytes_decides x y).0 e)
left_by false x y bs o l e h = refl

-- the innermost variable leaves, and the next one of its name takes its place
pub left : (b : Binder) (bs : List Binder) (x : List ℕ) (y : List ℕ) → b.name ≡ Some x → AreShadowed (b ∷ bs) → cond (bytes_eq x y) b.shadowed (place_of (b ∷ bs) y) ≡ place_of bs y
left b bs x y e h =
    ap (λ n. cond (bytes_eq x y) b.shadowed (cond (is_name n y) (Some (length bs)) (place_of bs y))) e
    ∙ left_by (bytes_eq x y) x y bs b.shadowed (length bs) refl (h.0 ∙ ap (λ n. place_behind n bs) e)

-- one that has no name leaves
pub left_unnamed : (b : Binder) (bs : List Binder) (y : List ℕ) → b.name ≡ None → place_of (b ∷ bs) y ≡ place_of bs y
left_unnamed b bs y e = ap (λ n. cond (is_name n y) (Some (length bs)) (place_of bs y)) e

pub reverse_pushed : {A : Type 0} (old new : List A) (x : A) → new ≡ old ++ x ∷ [] → reverse new ≡ x ∷ reverse old
reverse_pushed old new x e = ap reverse e ∙ reverse-append old (x ∷ [])

pub some_copied : {A : Type 0} (o : Option (Bor A)) → is_some o ≡ is_some (option_copied o)
some_copied (Some x) = refl
some_copied None = refl

map_reverse_onto : {A B : Type 0} (f : A → B) (xs : List A) → map f (reverse xs) ≡ reverse (map f xs)
map_reverse_onto f [] = refl
map_reverse_onto f (x ∷ xs) =
    ap (map f) (reverse-append (x ∷ []) xs) ∙ map-append f (reverse xs) (x ∷ []) ∙ ap (λ ys. ys ++ f x ∷ []) (map_reverse_onto f xs) ∙ sym (reverse-append (f x ∷ []) (map f xs))

-- the names of the variables, the innermost first
pub names_of_reverse : (bs : List Binder) → names_of (reverse bs) ≡ reverse (names_of bs)
names_of_reverse bs = map_reverse_onto (λ b. b.name) bs

-- the innermost variable's name has a place
pub still_known : (b : Binder) (bs : List Binder) (x : List ℕ) → b.name ≡ Some x → place_of (b ∷ bs) x ≡ Some (length bs)
still_known b bs x e = ap (λ n. cond (is_name n x) (Some (length bs)) (place_of bs x)) e ∙ ap (λ c. cond c (Some (length bs)) (place_of bs x)) ((bytes_decides x x).1 refl)

pub none_is_not_some : (k : ℕ) → None ≡ Some k → ⊥
none_is_not_some k e = cc
