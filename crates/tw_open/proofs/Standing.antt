-- Types and kinds that stand, one argument after another.
use Rattle.std.proofs.Common.{ℕ, List, [], ◌∷◌}
use Rattle.lf.specs.SkeletonTyping.{KindBySkeletons, TypeBySkeletons}
use Rattle.lf.specs.Skeletons.{family_skeletons}
use Rattle.lf.specs.Syntax.{Kind, LfType, kind_pi, pi, skeleton}
use Rattle.lf.specs.Typing.{instantiate_kind, instantiate_type}
use Rattle.lf.proofs.SkeletonTypes.{single_kind_by_skeletons, single_type_by_skeletons}
use Rattle.lf.proofs.SkeletonTyping.{single_by_skeletons}
use Rattle.lf_unification.specs.Offering.{raised}
use Rattle.lf_unification.specs.Patterns.{local_skeletons}
use Rattle.lf_elaboration.specs.Skeletons.{heads_of}
use Rattle.lf_elaboration.specs.State.{State, with_metavariable}
use Rattle.lf_elaboration.proofs.Adds.{adds_metavariable}
use Rattle.lf_elaboration.proofs.Skeletons.{kind_grows, local_grows, raised_skeleton, type_grows}
use Rattle.tw_hered.specs.Fits.{KindFits, TypeFits, put_at}
use Rattle.tw_open.specs.Fits.{KindStands, TypeStands}

module _ (s : State) (D : List LfType) (A : LfType) where
  -- the first argument of a type
  range_stands : (B : LfType) (f : TypeStands s D (pi A B)) → TypeBySkeletons (family_skeletons f.signature) (heads_of f.signature (with_metavariable D A s)) (skeleton A ∷ local_skeletons D []) B
  range_stands B f = (type_grows f.signature f.typed_signature s (with_metavariable D A s) (adds_metavariable D A s f.numbered) D (pi A B) f.of_type).1

  pub range_fits : (B : LfType) → TypeStands s D (pi A B) → TypeFits (put_at 0 (skeleton A) (raised D A s.next)) B
  range_fits B f = record {
    families = family_skeletons f.signature;
    heads = heads_of f.signature (with_metavariable D A s);
    context = skeleton A ∷ local_skeletons D [];
    target = local_skeletons D [];
    substitution_typed = single_by_skeletons (heads_of f.signature (with_metavariable D A s)) (skeleton A) (local_skeletons D []) (raised D A s.next) (raised_skeleton f.signature f.typed_signature D A s);
    type_typed = range_stands B f;
  }

  pub rest_stands : (B : LfType) → TypeStands s D (pi A B) → TypeStands (with_metavariable D A s) D (instantiate_type A (raised D A s.next) B)
  rest_stands B f = record {
    signature = f.signature;
    typed_signature = f.typed_signature;
    numbered = (adds_metavariable D A s f.numbered).numbered;
    local = local_grows f.signature f.typed_signature s (with_metavariable D A s) (adds_metavariable D A s f.numbered) D f.local;
    of_type = single_type_by_skeletons (family_skeletons f.signature) (heads_of f.signature (with_metavariable D A s)) (skeleton A) (local_skeletons D []) (raised D A s.next) B (raised_skeleton f.signature f.typed_signature D A s) (range_stands B f);
  }

  -- and of a kind
  kind_range_stands : (K : Kind) (f : KindStands s D (kind_pi A K)) → KindBySkeletons (family_skeletons f.signature) (heads_of f.signature (with_metavariable D A s)) (skeleton A ∷ local_skeletons D []) K
  kind_range_stands K f = (kind_grows f.signature f.typed_signature s (with_metavariable D A s) (adds_metavariable D A s f.numbered) D (kind_pi A K) f.of_kind).1

  pub kind_range_fits : (K : Kind) → KindStands s D (kind_pi A K) → KindFits (put_at 0 (skeleton A) (raised D A s.next)) K
  kind_range_fits K f = record {
    families = family_skeletons f.signature;
    heads = heads_of f.signature (with_metavariable D A s);
    context = skeleton A ∷ local_skeletons D [];
    target = local_skeletons D [];
    substitution_typed = single_by_skeletons (heads_of f.signature (with_metavariable D A s)) (skeleton A) (local_skeletons D []) (raised D A s.next) (raised_skeleton f.signature f.typed_signature D A s);
    kind_typed = kind_range_stands K f;
  }

  pub kind_rest_stands : (K : Kind) → KindStands s D (kind_pi A K) → KindStands (with_metavariable D A s) D (instantiate_kind A (raised D A s.next) K)
  kind_rest_stands K f = record {
    signature = f.signature;
    typed_signature = f.typed_signature;
    numbered = (adds_metavariable D A s f.numbered).numbered;
    local = local_grows f.signature f.typed_signature s (with_metavariable D A s) (adds_metavariable D A s f.numbered) D f.local;
    of_kind = single_kind_by_skeletons (family_skeletons f.signature) (heads_of f.signature (with_metavariable D A s)) (skeleton A) (local_skeletons D []) (raised D A s.next) K (raised_skeleton f.signature f.typed_signature D A s) (kind_range_stands K f);
  }
