-- A row of arguments is put to a family, one after another.
use Rattle.std.proofs.Common.{◌≡◌, ◌<◌, ℕ, List, [], ◌∷◌, ◌++◌, Bor, length, refl, sym, ap, ◌∙◌, subst}
use Rattle.lf.specs.Depth.{depth_limit, kind_depth}
use Rattle.lf.specs.Entries.{Entry, IsCanonicalSignature, signature_of}
use Rattle.lf.specs.Eta.{add_last}
use Rattle.lf.specs.Substitution.{single}
use Rattle.lf.specs.Syntax.{Kind, LfType, Spine, Term, kind_pi, skeleton}
use Rattle.lf.specs.Typing.{instantiate_kind}
use Rattle.lf_elaboration.specs.Elaboration.{Checks, ElaboratesFamily, at_family_applied}
use Rattle.lf_elaboration.specs.Skeletons.{KindHasSkeletons, TypeHasSkeletons}
use Rattle.lf_elaboration.specs.State.{State}
use Rattle.lf_elaboration.specs.Written.{Written, WrittenType, family_applied}
use Rattle.tw_hered.specs.Fits.{KindFits}
use Rattle.tw_terms.proofs.Args.{types_and_skeletons}
use Rattle.tw_written.proofs.Views.{written_views}
use Rattle.tw_written.specs.declared.written.Written.{Written as Syntax}
use Rattle.tw_elaborate.specs.Deep.{ChecksDeep, FamilyDeep, deep_applied_family, deep_index, deep_left_kind}
use Rattle.tw_elaborate.specs.FamilyRows.{FamilyReached, family_applied_to}
use Rattle.tw_elaborate.specs.Fits.{Stands}
use Rattle.tw_elaborate.specs.Operators.{written_terms}
use Rattle.tw_elaborate.proofs.Following.{family_found, family_stands, kind_range_fits}

pub family_applied_to-push : (F : WrittenType) (P : Written) (Ps : List Written) → family_applied_to F (Ps ++ P ∷ []) ≡ family_applied_to (family_applied F P) Ps
family_applied_to-push F P [] = refl
family_applied_to-push F P (Q ∷ Ps) = ap (λ U. family_applied U Q) (family_applied_to-push F P Ps)

module _ (es : List Entry) (ns : List ℕ) (D : List LfType) where
  pub deep_family_row : (F : WrittenType) (s : State) (Ps : List Written) → FamilyDeep es ns D F s → FamilyDeep es ns D (family_applied_to F Ps) s
  deep_family_row F s [] d = d
  deep_family_row F s (P ∷ Ps) d = deep_applied_family (deep_family_row F s Ps d)

  pub all_family_reached : (W : WrittenType) (s t : State) (left : List (Bor Syntax)) (a : ℕ) (S : Spine) (K : Kind) → length left ≡ 0 → FamilyReached es ns D W s (written_terms left) t a S K → ElaboratesFamily es ns D W s t a S K
  all_family_reached W s t [] a S K e r = subst (λ F. ElaboratesFamily es ns D F s t a S K) r.is r.elaborated
  all_family_reached W s t (p ∷ ps) a S K e r = absurd cc

  -- the next argument is P, and A and L are the domain and the range of the kind
  module _ {W : WrittenType} {s t : State} {Qs : List Written} {a : ℕ} {S : Spine} {K : Kind} (r : FamilyReached es ns D W s Qs t a S K) (Ps : List Written) (P : Written) (q : Qs ≡ Ps ++ P ∷ []) (A : LfType) (L : Kind) (e : K ≡ kind_pi A L) where
    next_family : ElaboratesFamily es ns D r.so_far s t a S (kind_pi A L)
    next_family = subst (ElaboratesFamily es ns D r.so_far s t a S) e r.elaborated

    next_is : family_applied_to (family_applied r.so_far P) Ps ≡ W
    next_is = sym (family_applied_to-push r.so_far P Ps) ∙ ap (family_applied_to r.so_far) (sym q) ∙ r.is

    pub family_reached_next : {u : State} {Q : Term} (T : Spine) (M : Kind) → Checks es ns D P A t u Q → T ≡ add_last S Q → M ≡ instantiate_kind A Q L → FamilyReached es ns D W s Ps u a T M
    family_reached_next {u = u} {Q = Q} T M c x y = record {
      so_far = family_applied r.so_far P;
      is = next_is;
      elaborated = subst (ElaboratesFamily es ns D (family_applied r.so_far P) s u a T) (sym y) (subst (λ V. ElaboratesFamily es ns D (family_applied r.so_far P) s u a V (instantiate_kind A Q L)) (sym x) (at_family_applied next_family c));
    }

    pub family_argument_deep : ChecksDeep es ns D P A t → FamilyDeep es ns D W s
    family_argument_deep d = subst (λ F. FamilyDeep es ns D F s) next_is (deep_family_row (family_applied r.so_far P) s Ps (deep_index next_family d))

    pub family_left_deep : {u : State} {Q : Term} → Checks es ns D P A t u Q → depth_limit < kind_depth (instantiate_kind A Q L) → FamilyDeep es ns D W s
    family_left_deep c d = subst (λ F. FamilyDeep es ns D F s) next_is (deep_family_row (family_applied r.so_far P) s Ps (deep_left_kind (at_family_applied next_family c) d))

    module _ (canonical : IsCanonicalSignature es) (w : Stands (signature_of es) s D) where
      pub next_family_stands : (E : List LfType) → E ≡ D → Stands (signature_of es) t E
      next_family_stands E k = family_stands es canonical ns w next_family E k

      next_kind : KindHasSkeletons (signature_of es) t D (kind_pi A L)
      next_kind = family_found es canonical ns w next_family D refl

      pub next_family_domain : (E : List LfType) → E ≡ D → TypeHasSkeletons (signature_of es) t E A
      next_family_domain E k = subst (λ F. TypeHasSkeletons (signature_of es) t F A) (sym k) next_kind.0

      pub next_kind_fits : {u : State} {Q : Term} → Checks es ns D P A t u Q → KindFits (single (skeleton A) Q) L
      next_kind_fits c = kind_range_fits es canonical ns (next_family_stands D refl) next_kind.0 c L next_kind

pub ruleset family_rows = (types_and_skeletons, written_views, family_applied_to-push)
