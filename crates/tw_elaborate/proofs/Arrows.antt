-- Chains of arrows: moved once, or step by step.
use Rattle.std.proofs.Common.{◌≡◌, ℕ, suc, ◌+◌, List, [], ◌∷◌, ◌++◌, length, map, refl, sym, ap, ap₂, ◌∙◌, subst, arith}
use mathlib.Core.Path.{fun_ext}
use Rattle.std.proofs.lemmas.List.{append_assoc, append-nil, length-append, map-append}
use Rattle.lf.specs.AtOnce.{shift_by}
use Rattle.lf.specs.Entries.{Entry, IsCanonicalSignature, signature_of}
use Rattle.lf.specs.Substitution.{keep, reduce}
use Rattle.lf.specs.Syntax.{Kind, LfType, kind_pi, lift_renaming, pi, rename_kind, rename_type, weaken}
use Rattle.lf.proofs.AtOnce.{shift_by_nothing}
use Rattle.lf.proofs.TypeLaws.{renamings_compose_type, substitute_identity_kind, substitute_identity_type, substitute_renamed_kind, substitution_as_renaming_kind, substitution_as_renaming_type}
use Rattle.lf_elaboration.specs.Elaboration.{ElaboratesKind, ElaboratesType, at_arrow, at_kind_arrow}
use Rattle.lf_elaboration.specs.State.{State}
use Rattle.lf_elaboration.specs.Written.{WrittenKind, WrittenType, arrow, kind_arrow}
use Rattle.tw_terms.specs.OpenView.{open_type_of}
use Rattle.tw_terms.specs.declared.open_terms.OpenTy.{OpenTy}
use Rattle.tw_elaborate.specs.Arrows.{arrows_to, kind_arrows_to}
use Rattle.tw_elaborate.specs.Deep.{KindDeep, TypeDeep, deep_arrow_domain, deep_arrow_range, deep_kind_domain, deep_kind_range}
use Rattle.tw_elaborate.specs.Fits.{Stands}
use Rattle.tw_elaborate.proofs.Following.{type_stands}

-- an arrow more at the end
arrows_to-push : (As : List LfType) (A B : LfType) → arrows_to As (pi A (weaken B)) ≡ arrows_to (As ++ A ∷ []) B
arrows_to-push [] A B = refl
arrows_to-push (C ∷ As) A B = ap (λ X. pi C (weaken X)) (arrows_to-push As A B)

kind_arrows_to-push : (As : List LfType) (A : LfType) (K : Kind) → kind_arrows_to As (kind_pi A (rename_kind suc K)) ≡ kind_arrows_to (As ++ A ∷ []) K
kind_arrows_to-push [] A K = refl
kind_arrows_to-push (C ∷ As) A K = ap (λ L. kind_pi C (rename_kind suc L)) (kind_arrows_to-push As A K)

-- moved by n, and over one variable more
one_more : (n i : ℕ) → lift_renaming (shift_by n) (suc i) ≡ shift_by (suc n) i
one_more n i = omega arith

under_arrow : (n : ℕ) (B : LfType) → rename_type (lift_renaming (shift_by n)) (weaken B) ≡ rename_type (shift_by (suc n)) B
under_arrow n B = renamings_compose_type (lift_renaming (shift_by n)) suc B ∙ ap (λ ρ. rename_type ρ B) (fun_ext (one_more n))

renamings_compose_kind : (ρ τ : ℕ → ℕ) (K : Kind) → rename_kind ρ (rename_kind τ K) ≡ rename_kind (λ i. ρ (τ i)) K
renamings_compose_kind ρ τ K = sym (substitution_as_renaming_kind reduce ρ (rename_kind τ K)) ∙ substitute_renamed_kind reduce (λ i. keep (ρ i)) τ K ∙ substitution_as_renaming_kind reduce (λ i. ρ (τ i)) K

under_kind_arrow : (n : ℕ) (K : Kind) → rename_kind (lift_renaming (shift_by n)) (rename_kind suc K) ≡ rename_kind (shift_by (suc n)) K
under_kind_arrow n K = renamings_compose_kind (lift_renaming (shift_by n)) suc K ∙ ap (λ ρ. rename_kind ρ K) (fun_ext (one_more n))

type_stays : (A : LfType) → rename_type (shift_by 0) A ≡ A
type_stays A = ap (λ ρ. rename_type ρ A) shift_by_nothing ∙ sym (substitution_as_renaming_type reduce (λ i. i) A) ∙ substitute_identity_type reduce A

kind_stays : (K : Kind) → rename_kind (shift_by 0) K ≡ K
kind_stays K = ap (λ ρ. rename_kind ρ K) shift_by_nothing ∙ sym (substitution_as_renaming_kind reduce (λ i. i) K) ∙ substitute_identity_kind reduce K

-- what is made from the end, moved over what is left
module _ {T : Type 0} (join : LfType → T → T) (move : ℕ → T → T) (chain : List LfType → T → T) where
  -- of the arrows from the types `whole`, those behind `left` are made
  pub record MadeBehind (whole left : List OpenTy) (end made : T) : Type 0 where
    pub behind : List LfType
    pub is : map open_type_of whole ≡ map open_type_of left ++ behind
    pub moved : made ≡ move (length left) (chain behind end)

  made_none : (whole : List OpenTy) (n : ℕ) (end made : T) → n ≡ length whole → chain [] end ≡ end → made ≡ move n end → MadeBehind whole whole end made
  made_none whole n end made q e m = record {
    behind = [];
    is = sym (append-nil (map open_type_of whole));
    moved = m ∙ ap (λ k. move k end) q ∙ ap (move (length whole)) (sym e);
  }

  made_more : (law : (n : ℕ) (A : LfType) (As : List LfType) (X : T) → join (rename_type (shift_by n) A) (move (suc n) (chain As X)) ≡ move n (chain (A ∷ As) X)) →
      (whole old new : List OpenTy) (d : OpenTy) (n : ℕ) (A : LfType) (end before made : T) → old ≡ new ++ d ∷ [] → n ≡ length new → A ≡ rename_type (shift_by n) (open_type_of d) → made ≡ join A before → MadeBehind whole old end before → MadeBehind whole new end made
  made_more law whole old new d n A end before made e q a m r =
      let B = open_type_of d in
      let l : length old ≡ suc (length new) = ap length e ∙ length-append new (d ∷ []) ∙ one (length new) in
      let a' : A ≡ rename_type (shift_by (length new)) B = a ∙ ap (λ k. rename_type (shift_by k) B) q in
      let b : before ≡ move (suc (length new)) (chain r.behind end) = r.moved ∙ ap (λ k. move k (chain r.behind end)) l in
      record {
        behind = B ∷ r.behind;
        is = r.is ∙ ap (λ As. As ++ r.behind) (ap (map open_type_of) e ∙ map-append open_type_of new (d ∷ [])) ∙ append_assoc (map open_type_of new) (B ∷ []) r.behind;
        moved = m ∙ ap₂ join a' b ∙ law (length new) B r.behind end;
      }
    where
      one : (k : ℕ) → k + 1 ≡ suc k
      one k = omega arith

  made_all : (whole left : List OpenTy) (end made : T) → ((X : T) → move 0 X ≡ X) → length left ≡ 0 → MadeBehind whole left end made → made ≡ chain (map open_type_of whole) end
  made_all whole [] end made stays e r = r.moved ∙ stays (chain r.behind end) ∙ ap (λ As. chain As end) (sym r.is)
  made_all whole (x ∷ xs) end made stays e r = absurd cc

-- to a type
abbrev pub ArrowsMade : List OpenTy → List OpenTy → LfType → LfType → Type 0
ArrowsMade = MadeBehind pi (λ n. rename_type (shift_by n)) arrows_to

pub arrows_none : (whole : List OpenTy) (n : ℕ) (end made : LfType) → n ≡ length whole → made ≡ rename_type (shift_by n) end → ArrowsMade whole whole end made
arrows_none whole n end made q m = made_none pi (λ k. rename_type (shift_by k)) arrows_to whole n end made q refl m

pub arrows_more : (whole old new : List OpenTy) (d : OpenTy) (n : ℕ) (A end before made : LfType) → old ≡ new ++ d ∷ [] → n ≡ length new → A ≡ rename_type (shift_by n) (open_type_of d) → made ≡ pi A before → ArrowsMade whole old end before → ArrowsMade whole new end made
arrows_more = made_more pi (λ k. rename_type (shift_by k)) arrows_to (λ n A As X. ap (pi (rename_type (shift_by n) A)) (sym (under_arrow n (arrows_to As X))))

pub arrows_all : (whole left : List OpenTy) (end made : LfType) → length left ≡ 0 → ArrowsMade whole left end made → made ≡ arrows_to (map open_type_of whole) end
arrows_all whole left end made = made_all pi (λ k. rename_type (shift_by k)) arrows_to whole left end made type_stays

-- to a kind
abbrev pub KindArrowsMade : List OpenTy → List OpenTy → Kind → Kind → Type 0
KindArrowsMade = MadeBehind kind_pi (λ n. rename_kind (shift_by n)) kind_arrows_to

pub kind_arrows_none : (whole : List OpenTy) (n : ℕ) (end made : Kind) → n ≡ length whole → made ≡ rename_kind (shift_by n) end → KindArrowsMade whole whole end made
kind_arrows_none whole n end made q m = made_none kind_pi (λ k. rename_kind (shift_by k)) kind_arrows_to whole n end made q refl m

pub kind_arrows_more : (whole old new : List OpenTy) (d : OpenTy) (n : ℕ) (A : LfType) (end before made : Kind) → old ≡ new ++ d ∷ [] → n ≡ length new → A ≡ rename_type (shift_by n) (open_type_of d) → made ≡ kind_pi A before → KindArrowsMade whole old end before → KindArrowsMade whole new end made
kind_arrows_more = made_more kind_pi (λ k. rename_kind (shift_by k)) kind_arrows_to (λ n A As X. ap (kind_pi (rename_type (shift_by n) A)) (sym (under_kind_arrow n (kind_arrows_to As X))))

pub kind_arrows_all : (whole left : List OpenTy) (end made : Kind) → length left ≡ 0 → KindArrowsMade whole left end made → made ≡ kind_arrows_to (map open_type_of whole) end
kind_arrows_all whole left end made = made_all kind_pi (λ k. rename_kind (shift_by k)) kind_arrows_to whole left end made kind_stays

-- elaborated from the left: of the chain W, from s, the domains As, and U is left, from t
module _ (es : List Entry) (ns : List ℕ) (D : List LfType) where
  pub record DomainsOf (W : WrittenType) (s : State) (U : WrittenType) (t : State) (As : List LfType) : Type 0 where
    pub elaborated : (u : State) (B : LfType) → ElaboratesType es ns D U t u B → ElaboratesType es ns D W s u (arrows_to As B)
    pub deep : TypeDeep es ns D U t → TypeDeep es ns D W s
    pub stands : Stands (signature_of es) t D

  pub no_domains : (W : WrittenType) (s : State) (As : List LfType) → As ≡ [] → Stands (signature_of es) s D → DomainsOf W s W s As
  no_domains W s As e w = record { elaborated = λ u B i. subst (λ Xs. ElaboratesType es ns D W s u (arrows_to Xs B)) (sym e) i; deep = λ d. d; stands = w }

  pub one_more_domain : (canonical : IsCanonicalSignature es) (W U V X : WrittenType) (s t u : State) (As Bs : List LfType) (A : LfType) → X ≡ arrow U V → Bs ≡ As ++ A ∷ [] → ElaboratesType es ns D U t u A → DomainsOf W s X t As → DomainsOf W s V u Bs
  one_more_domain canonical W U V X s t u As Bs A x b i r = record {
    elaborated = λ v B j. subst (ElaboratesType es ns D W s v) (arrows_to-push As A B ∙ ap (λ Xs. arrows_to Xs B) (sym b)) (r.elaborated v (pi A (weaken B)) (subst (λ Z. ElaboratesType es ns D Z t v (pi A (weaken B))) (sym x) (at_arrow i j)));
    deep = λ d. r.deep (subst (λ Z. TypeDeep es ns D Z t) (sym x) (deep_arrow_range i d));
    stands = type_stands es canonical ns r.stands i D refl;
  }

  pub domain_too_deep : (W U V X : WrittenType) (s t : State) (As : List LfType) → X ≡ arrow U V → TypeDeep es ns D U t → DomainsOf W s X t As → TypeDeep es ns D W s
  domain_too_deep W U V X s t As x d r = r.deep (subst (λ Z. TypeDeep es ns D Z t) (sym x) (deep_arrow_domain d))

  -- the same of a kind
  pub record KindDomainsOf (W : WrittenKind) (s : State) (k : WrittenKind) (t : State) (As : List LfType) : Type 0 where
    pub elaborated : (u : State) (K : Kind) → ElaboratesKind es ns D k t u K → ElaboratesKind es ns D W s u (kind_arrows_to As K)
    pub deep : KindDeep es ns D k t → KindDeep es ns D W s
    pub stands : Stands (signature_of es) t D

  pub no_kind_domains : (W : WrittenKind) (s : State) (As : List LfType) → As ≡ [] → Stands (signature_of es) s D → KindDomainsOf W s W s As
  no_kind_domains W s As e w = record { elaborated = λ u K i. subst (λ Xs. ElaboratesKind es ns D W s u (kind_arrows_to Xs K)) (sym e) i; deep = λ d. d; stands = w }

  pub one_more_kind_domain : (canonical : IsCanonicalSignature es) (W k X : WrittenKind) (U : WrittenType) (s t u : State) (As Bs : List LfType) (A : LfType) → X ≡ kind_arrow U k → Bs ≡ As ++ A ∷ [] → ElaboratesType es ns D U t u A → KindDomainsOf W s X t As → KindDomainsOf W s k u Bs
  one_more_kind_domain canonical W k X U s t u As Bs A x b i r = record {
    elaborated = λ v K j. subst (ElaboratesKind es ns D W s v) (kind_arrows_to-push As A K ∙ ap (λ Xs. kind_arrows_to Xs K) (sym b)) (r.elaborated v (kind_pi A (rename_kind suc K)) (subst (λ Z. ElaboratesKind es ns D Z t v (kind_pi A (rename_kind suc K))) (sym x) (at_kind_arrow i j)));
    deep = λ d. r.deep (subst (λ Z. KindDeep es ns D Z t) (sym x) (deep_kind_range i d));
    stands = type_stands es canonical ns r.stands i D refl;
  }

  pub kind_domain_too_deep : (W k X : WrittenKind) (U : WrittenType) (s t : State) (As : List LfType) → X ≡ kind_arrow U k → TypeDeep es ns D U t → KindDomainsOf W s X t As → KindDeep es ns D W s
  kind_domain_too_deep W k X U s t As x d r = r.deep (subst (λ Z. KindDeep es ns D Z t) (sym x) (deep_kind_domain d))
