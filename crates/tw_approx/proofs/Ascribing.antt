-- Types that are written for a term, or kinds for a family, one after another.
use Rattle.std.proofs.Common.{◌≡◌, List, [], ◌∷◌, ◌++◌, Bor, Box, Global, refl, sym, ap, ap₂, ◌∙◌, subst}
use Rattle.std.proofs.lemmas.List.{map-append}
use Rattle.lf.specs.Entries.{Entry}
use Rattle.tw_approx.specs.Names.{IsFreeIn}
use Rattle.tw_approx.specs.Reading.{family_at, ReadsFamily, ReadsDue}
use Rattle.tw_approx.specs.Ascribed.{ascribed_to}
use Rattle.tw_approx.specs.Skeletons.{ascribed, family_ascribed, term_skeleton, family_skeleton, type_skeleton, kind_due}
use Rattle.tw_approx.specs.Walks.{State, Nothing, filled_all, IsSound, Refuses, ReadsShape}
use Rattle.tw_approx.specs.declared.family.FamilyShape.{FamilyShape}
use Rattle.tw_parse.proofs.Views.{term_of-Ascribe}
use Rattle.tw_parse.specs.Applied.{written_terms}
use Rattle.tw_parse.specs.Syntax.{Term, ascription}
use Rattle.tw_parse.specs.View.{term_of}
use Rattle.tw_parse.specs.declared.term.ExtTerm.{ExtTerm, Ascribe}
use Rattle.tw_shapes.specs.Shapes.{Shape, filled}
use Rattle.tw_approx.proofs.Applying.{IsAscribing, IsFamilyAscribing}
use Rattle.tw_approx.proofs.Families.{family_ascription_reads, family_ascription_refuses, family_ascription_refuses_family, family_ascription_refuses_kind}
use Rattle.tw_approx.proofs.Forms.{ascription_reads, ascription_refuses, ascription_refuses_term, ascription_refuses_type}

pub ascribed_to-push : (M A : Term) (As : List Term) → ascribed_to M (As ++ A ∷ []) ≡ ascribed_to (ascription M A) As
ascribed_to-push M A [] = refl
ascribed_to-push M A (B ∷ As) = ap (λ T. ascription T B) (ascribed_to-push M A As)

-- the innermost type goes behind the others
pub next_type : (rest next : ExtTerm) (M A : Box ExtTerm Global) (old new : List (Bor ExtTerm)) (a : Bor ExtTerm) (W : Term) → rest ≡ Ascribe M A → next ≡ M.value → a.now ≡ A.value → new ≡ old ++ a ∷ [] → ascribed_to (term_of rest) (written_terms old) ≡ W → ascribed_to (term_of next) (written_terms new) ≡ W
next_type rest next M A old new a W is f m e h =
    ap₂ ascribed_to (ap term_of f) (ap written_terms e ∙ map-append (λ (x : Bor ExtTerm). term_of x.now) old (a ∷ []))
    ∙ ascribed_to-push (term_of M.value) (term_of a.now) (written_terms old)
    ∙ ap (λ N. ascribed_to N (written_terms old)) (ap (ascription (term_of M.value)) (ap term_of m) ∙ sym (term_of-Ascribe M A) ∙ sym (ap term_of is))
    ∙ h

-- one type more
next_ascribed : (T W : Term) (old new : List (Bor ExtTerm)) (a : Bor ExtTerm) → old ≡ new ++ a ∷ [] → ascribed_to T (written_terms old) ≡ W → ascribed_to (ascription T (term_of a.now)) (written_terms new) ≡ W
next_ascribed T W old new a e h =
    sym (ascribed_to-push T (term_of a.now) (written_terms new)) ∙ ap (ascribed_to T) (sym (map-append (λ (x : Bor ExtTerm). term_of x.now) new (a ∷ []))) ∙ ap (λ xs. ascribed_to T (written_terms xs)) (sym e) ∙ h

module _ (es : List Entry) (s : State) (sound : IsSound s) where
  abbrev IsRefused : Term → Type 0
  IsRefused M = Refuses (λ f θ. term_skeleton es f s.names (filled_all θ s.context) M) s

  abbrev IsFamilyRefused : Term → Type 0
  IsFamilyRefused M = Refuses (λ f θ. family_skeleton es f s.names (filled_all θ s.context) M) s

  types_refuse : (M : Term) (As : List Term) → IsRefused M → IsRefused (ascribed_to M As)
  types_refuse M [] r = r
  types_refuse M (A ∷ As) r = ascription_refuses_term es s sound (ascribed_to M As) A (types_refuse M As r)

  kinds_refuse : (M : Term) (Ks : List Term) → IsFamilyRefused M → IsFamilyRefused (ascribed_to M Ks)
  kinds_refuse M [] r = r
  kinds_refuse M (K ∷ Ks) r = family_ascription_refuses_family es s sound (ascribed_to M Ks) K (kinds_refuse M Ks r)

  pub inner_refuses : (M W : Term) (As : List Term) → ascribed_to M As ≡ W → IsRefused M → IsRefused W
  inner_refuses M W As e r = subst IsRefused e (types_refuse M As r)

  pub inner_family_refuses : (M W : Term) (Ks : List Term) → ascribed_to M Ks ≡ W → IsFamilyRefused M → IsFamilyRefused W
  inner_family_refuses M W Ks e r = subst IsFamilyRefused e (kinds_refuse M Ks r)

  module _ {W : Term} {old : List (Bor ExtTerm)} {t : State} where
    module _ {S : Shape} (k : IsAscribing es s t W (written_terms old) S) (new : List (Bor ExtTerm)) (a : Bor ExtTerm) (e : old ≡ new ++ a ∷ []) where
      abbrev next_term : Term
      next_term = ascription k.0 (term_of a.now)

      refused_next : IsRefused next_term → IsRefused W
      refused_next r = subst IsRefused (next_ascribed k.0 W old new a e k.1) (types_refuse next_term (written_terms new) r)

      pub type_refused : Refuses (λ f θ. type_skeleton es f t.names (filled_all θ t.context) (term_of a.now)) t → IsRefused W
      type_refused two = refused_next (ascription_refuses_type es s sound k.0 (term_of a.now) t S k.2 two)

      module _ {u : State} {U : Shape} (two : ReadsShape (λ f θ. type_skeleton es f t.names (filled_all θ t.context) (term_of a.now)) (λ y. IsFreeIn es y t.names (term_of a.now)) t u U) where
        pub type_taken : (w : State) (V : Shape) → ReadsShape (λ f θ. ascribed (filled θ S) (filled θ U)) Nothing u w V → IsAscribing es s w W (written_terms new) V
        type_taken w V three = (next_term, next_ascribed k.0 W old new a e k.1, ascription_reads es s sound k.0 (term_of a.now) t u w S U V k.2 two three)

        pub ascription_refused : Refuses (λ f θ. ascribed (filled θ S) (filled θ U)) u → IsRefused W
        ascription_refused three = refused_next (ascription_refuses es s sound k.0 (term_of a.now) t u S U k.2 two three)

    module _ {G : FamilyShape} (k : IsFamilyAscribing es s t W (written_terms old) G) (new : List (Bor ExtTerm)) (a : Bor ExtTerm) (e : old ≡ new ++ a ∷ []) where
      abbrev next_family : Term
      next_family = ascription k.0 (term_of a.now)

      family_refused_next : IsFamilyRefused next_family → IsFamilyRefused W
      family_refused_next r = subst IsFamilyRefused (next_ascribed k.0 W old new a e k.1) (kinds_refuse next_family (written_terms new) r)

      pub kind_refused : Refuses (λ f θ. kind_due es f t.names (filled_all θ t.context) (term_of a.now)) t → IsFamilyRefused W
      kind_refused two = family_refused_next (family_ascription_refuses_kind es s sound k.0 (term_of a.now) t G k.2 two)

      module _ {u : State} {Ss : List Shape} (two : ReadsDue (λ f θ. kind_due es f t.names (filled_all θ t.context) (term_of a.now)) (λ y. IsFreeIn es y t.names (term_of a.now)) t u Ss) where
        pub kind_taken : (w : State) (H : FamilyShape) → ReadsFamily (λ f θ. family_ascribed (family_at G θ) (filled_all θ Ss)) Nothing u w H → IsFamilyAscribing es s w W (written_terms new) H
        kind_taken w H three = (next_family, next_ascribed k.0 W old new a e k.1, family_ascription_reads es s sound k.0 (term_of a.now) t u w G H Ss k.2 two three)

        pub family_ascription_refused : Refuses (λ f θ. family_ascribed (family_at G θ) (filled_all θ Ss)) u → IsFamilyRefused W
        family_ascription_refused three = family_refused_next (family_ascription_refuses es s sound k.0 (term_of a.now) t u G Ss k.2 two three)
