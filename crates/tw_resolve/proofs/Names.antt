-- What names stand for, and what is left of the skeletons of entries.
use Rattle.std.proofs.Common.{◌≡◌, ℕ, zero, suc, ◌≤◌, List, [], ◌∷◌, length, drop, slice_get, option_map, Bool, true, false, cond, Option, None, Some, ◌⊎◌, inl, inr, if◌then◌else◌, arith, refl, sym, ap, ◌∙◌, subst}
use Rattle.std.specs.Str.{bytes_eq}
use Rattle.lf.specs.Entries.{Entry, Body, declare_family, declare_constant, declare_definition, entry, body_quantifiers, kind_quantifiers, IsCanonicalSignature}
use Rattle.lf.specs.SkeletonTyping.{SkeletonAt}
use Rattle.lf.specs.Syntax.{Skeleton, base, arrow, skeleton, Kind, kind_pi, star, kind_skeleton}
use Rattle.lf.specs.Variables.{same_number}
use Rattle.lf_elaboration.specs.Written.{Place, Written, free, bound, declared, family}
use Rattle.lf_elaboration.specs.WrittenSkeletons.{LeavesSkeleton, type_in_terms, NameHasSkeleton, FamilyNameLeaves, WrittenHasSkeleton}
use Rattle.tw_approx.specs.Answer.{Rows, frees_of, HasRow}
use Rattle.tw_approx.specs.Skeletons.{behind, object_skeleton, entry_skeleton, name_skeleton, Family, known, due, family_of_body, family_of_entry, family_named}
use Rattle.tw_names.specs.Scope.{head_named}
use Rattle.tw_names.specs.Unknown.{is_uppercase}
use Rattle.tw_fixity.specs.Names.{Names, variable_of}
use Rattle.tw_approx.proofs.Naming.{is_name}
use Rattle.tw_resolve.specs.Resolving.{resolved_name, resolved_family}
use Rattle.lf_elaboration.specs.BodySkeletons.{due_skeleton}
use Rattle.tw_resolve.specs.Resolved.{names_of, skeletons_of}

-- Two variables with one skeleton, or none.
abbrev pub AreAlike : Option ℕ → List Skeleton → Option ℕ → List Skeleton → Type 0
AreAlike (Some i) G (Some j) H = slice_get G i ≡ slice_get H j
AreAlike None G None H = Unit {0}
AreAlike (Some i) G None H = ⊥
AreAlike None G (Some j) H = ⊥

-- Names in two scopes that differ by variables without names: those of arrows stand in the first alone.
abbrev pub IsThinner : Names → List Skeleton → Names → List Skeleton → Type 0
IsThinner N G M H = (x : List ℕ) → AreAlike (variable_of N x) G (variable_of M x) H

both_further : (i j : Option ℕ) (G H : List Skeleton) (s t : Skeleton) → AreAlike i G j H → AreAlike (option_map suc i) (s ∷ G) (option_map suc j) (t ∷ H)
both_further (Some i) (Some j) G H s t a = a
both_further None None G H s t a = tt
both_further (Some i) None G H s t a = absurd a
both_further None (Some j) G H s t a = absurd a

one_further : (i j : Option ℕ) (G H : List Skeleton) (s : Skeleton) → AreAlike i G j H → AreAlike (option_map suc i) (s ∷ G) j H
one_further (Some i) (Some j) G H s a = a
one_further None None G H s a = tt
one_further (Some i) None G H s a = absurd a
one_further None (Some j) G H s a = absurd a

either_further : (b : Bool) (i j : Option ℕ) (G H : List Skeleton) (s : Skeleton) → AreAlike i G j H → AreAlike (if b then Some zero else option_map suc i) (s ∷ G) (if b then Some zero else option_map suc j) (s ∷ H)
either_further true i j G H s a = refl
either_further false i j G H s a = both_further i j G H s s a

pub thinner_under : (n : Option (List ℕ)) (s : Skeleton) (N M : Names) (G H : List Skeleton) → IsThinner N G M H → IsThinner (n ∷ N) (s ∷ G) (n ∷ M) (s ∷ H)
thinner_under None s N M G H t x = both_further (variable_of N x) (variable_of M x) G H s s (t x)
thinner_under (Some y) s N M G H t x = either_further (bytes_eq y x) (variable_of N x) (variable_of M x) G H s (t x)

pub thinner_by : (s : Skeleton) (N M : Names) (G H : List Skeleton) → IsThinner N G M H → IsThinner (None ∷ N) (s ∷ G) M H
thinner_by s N M G H t x = one_further (variable_of N x) (variable_of M x) G H s (t x)

pub thinner_empty : IsThinner [] [] [] []
thinner_empty x = tt

-- free variables
abbrev IsPlaced : Rows → List ℕ → Type 0
IsPlaced rows x = (i : ℕ) × (variable_of (names_of rows) x ≡ Some i) × (slice_get (skeletons_of rows) i ≡ Some (frees_of rows x))

placed_at : (y : List ℕ) (s : Skeleton) (rows : Rows) (x : List ℕ) (b : Bool) → bytes_eq y x ≡ b → (y ≡ x) ⊎ HasRow x rows → (HasRow x rows → IsPlaced rows x)
    → (i : ℕ) × ((if b then Some zero else option_map suc (variable_of (names_of rows) x)) ≡ Some i) × (slice_get (s ∷ skeletons_of rows) i ≡ Some (if b then s else frees_of rows x))
placed_at y s rows x true e h later = (zero, refl, refl)
placed_at y s rows x false e (inl same) later = let t : bytes_eq y x ≡ true = is_name y x same in absurd cc
placed_at y s rows x false e (inr h) later = let p = later h in (suc p.0, ap (option_map suc) p.1, p.2)

pub placed : (rows : Rows) (x : List ℕ) → HasRow x rows → IsPlaced rows x
placed [] x h = absurd h
placed ((y, s) ∷ rows) x h = placed_at y s rows x (bytes_eq y x) refl h (placed rows x)

at_place : (G : List Skeleton) (i : ℕ) (s : Skeleton) → slice_get G i ≡ Some s → SkeletonAt G i s
at_place [] zero s e = absurd cc
at_place [] (suc i) s e = absurd cc
at_place (t ∷ G) zero s e = cc
at_place (t ∷ G) (suc i) s e = at_place G i s e

behind_leaves : (k : ℕ) (t u : Skeleton) → behind k t ≡ Some u → LeavesSkeleton k t u
behind_leaves zero t u e = cc
behind_leaves (suc k) (arrow a b) u e = behind_leaves k b u e
behind_leaves (suc k) (base a) u e = absurd cc

upper_is : (b : Bool) (t s : Skeleton) → (if b then Some t else None) ≡ Some s → (b ≡ true) × (t ≡ s)
upper_is true t s e = (refl, cc)
upper_is false t s e = absurd cc

implicit_at : (b : Bool) (d e : Entry) (x : Option Entry) → cond b (Some d) x ≡ Some e → d.implicit ≤ body_quantifiers d.body → (x ≡ Some e → e.implicit ≤ body_quantifiers e.body) → e.implicit ≤ body_quantifiers e.body
implicit_at true d e x h i later = let same : d ≡ e = cc in subst (λ (f : Entry). f.implicit ≤ body_quantifiers f.body) same i
implicit_at false d e x h i later = later h

implicit_within : (es : List Entry) → IsCanonicalSignature es → (c : ℕ) (e : Entry) → entry es c ≡ Some e → e.implicit ≤ body_quantifiers e.body
implicit_within [] k c e h = absurd cc
implicit_within (d ∷ es) (k, i) c e h = implicit_at (same_number c (length es)) d e (entry es c) h i.implicit_lead (implicit_within es k c e)

whole_due : (c : ℕ) (K : Kind) → kind_skeleton c K ≡ due_skeleton (due K) c
whole_due c (kind_pi A K) = ap (arrow (skeleton A)) (whole_due c K)
whole_due c star = refl

leaves_due : (k c : ℕ) (K : Kind) → k ≤ kind_quantifiers K → LeavesSkeleton k (kind_skeleton c K) (due_skeleton (drop k (due K)) c)
leaves_due zero c K h = whole_due c K
leaves_due (suc k) c (kind_pi A K) h = leaves_due k c K (omega arith)
leaves_due (suc k) c star h = absurd (omega arith)

module _ (es : List Entry) (rows : Rows) where
  body_has : (c : ℕ) (e : Entry) (b : Body) (s : Skeleton) → entry es c ≡ Some e → e.body ≡ b → object_skeleton e.implicit b ≡ Some s → NameHasSkeleton es (skeletons_of rows) c s
  body_has c e (declare_family K) s h i f = absurd cc
  body_has c e (declare_constant A) s h i f = (e, A, h, ap type_in_terms i, behind_leaves e.implicit (skeleton A) s f)
  body_has c e (declare_definition M A b) s h i f = (e, A, h, ap type_in_terms i, behind_leaves e.implicit (skeleton A) s f)

  entry_has : (c : ℕ) (x : Option Entry) (s : Skeleton) → entry es c ≡ x → entry_skeleton x ≡ Some s → NameHasSkeleton es (skeletons_of rows) c s
  entry_has c None s h e = absurd cc
  entry_has c (Some d) s h e = body_has c d d.body s h refl e

  -- what a name is in a term
  pub name_has : (at : Place) (G H : List Skeleton) (i j c : Option ℕ) (x : List ℕ) (s : Skeleton) → AreAlike i G j H → name_skeleton es (frees_of rows) G (head_named i c) x ≡ Some s → (head_named i c ≡ None → is_uppercase x ≡ true → HasRow x rows)
      → (w : Written) × (resolved_name at (head_named j c) (variable_of (names_of rows) x) ≡ Some w) × WrittenHasSkeleton es (skeletons_of rows) H w s
  name_has at G H (Some i) (Some j) c x s a e r = (bound j, refl, at_place H j s (sym a ∙ e))
  name_has at G H None None (Some c) x s a e r = (declared c at, refl, entry_has c (entry es c) s refl e)
  name_has at G H None None None x s a e r =
      let u = upper_is (is_uppercase x) (frees_of rows x) s e in
      let p = placed rows x (r refl u.0) in
      (free p.0 at, ap (option_map (λ k. free k at)) p.1, p.2 ∙ ap Some u.1)
  name_has at G H (Some i) None c x s a e r = absurd a
  name_has at G H None (Some j) c x s a e r = absurd a

  family_body_has : IsCanonicalSignature es → (c : ℕ) (e : Entry) (b : Body) (F : Family) → entry es c ≡ Some e → e.body ≡ b → family_of_body c e.implicit b ≡ Some F
      → (ss : List Skeleton) × (F ≡ known ss (base c)) × FamilyNameLeaves es (skeletons_of rows) c (due_skeleton ss c)
  family_body_has k c e (declare_family K) F h i f =
      let within : e.implicit ≤ kind_quantifiers K = subst (λ b. e.implicit ≤ body_quantifiers b) i (implicit_within es k c e h) in
      (drop e.implicit (due K), cc, (e, K, h, i, leaves_due e.implicit c K within))
  family_body_has k c e (declare_constant A) F h i f = absurd cc
  family_body_has k c e (declare_definition M A b) F h i f = absurd cc

  family_entry_has : IsCanonicalSignature es → (c : ℕ) (x : Option Entry) (F : Family) → entry es c ≡ x → family_of_entry c x ≡ Some F
      → (ss : List Skeleton) × (F ≡ known ss (base c)) × FamilyNameLeaves es (skeletons_of rows) c (due_skeleton ss c)
  family_entry_has k c None F h e = absurd cc
  family_entry_has k c (Some d) F h e = family_body_has k c d d.body F h refl e

  -- what a name is as a family
  pub family_name_has : IsCanonicalSignature es → (at : Place) (G H : List Skeleton) (i j c : Option ℕ) (F : Family) → AreAlike i G j H → family_named es (head_named i c) ≡ Some F
      → (a : ℕ) × (ss : List Skeleton) × (resolved_family at (head_named j c) ≡ Some (family a at)) × (F ≡ known ss (base a)) × FamilyNameLeaves es (skeletons_of rows) a (due_skeleton ss a)
  family_name_has k at G H (Some i) j c F a e = absurd cc
  family_name_has k at G H None None (Some c) F a e = let r = family_entry_has k c (entry es c) F refl e in (c, r.0, refl, r.1, r.2)
  family_name_has k at G H None None None F a e = absurd cc
  family_name_has k at G H None (Some j) c F a e = absurd a
