-- Elaboration goes through just where what is written has a skeleton.
use Rattle.lf.specs.Entries.{signature_of}
use Rattle.lf.proofs.Entries.{canonical_is_signature}
use Rattle.lf_elaboration.specs.Laws.{ElaboratedHadSkeleton, FreesAreMade, SkeletonIsElaborated}
use Rattle.lf_elaboration.specs.Skeletons.{StateHasSkeletons}
use Rattle.lf_elaboration.specs.State.{nothing_yet}
use Rattle.lf_elaboration.proofs.Adds.{checks_adds, infers_adds, kind_adds, type_adds}
use Rattle.lf_elaboration.proofs.Had.{checks_had, frees_stand, frees_total, infers_had, kind_had, type_had}
use Rattle.lf_elaboration.proofs.Skeletons.{checks_skeletons, frees_skeletons, infers_skeletons, kind_skeletons, nothing_has_skeletons, type_skeletons}
use Rattle.lf_elaboration.proofs.Total.{kind_total, stands_behind, term_total, type_total}

pub frees_made : FreesAreMade
frees_made es canonical ts =
    let n : StateHasSkeletons (signature_of es) nothing_yet = nothing_has_skeletons (signature_of es) (canonical_is_signature es canonical) in
    ((λ d. frees_total es canonical ts nothing_yet d), (λ s frees f. record { state = frees_skeletons es canonical f n; local = tt; free_variables = frees_stand es canonical f n }))

pub total : SkeletonIsElaborated
total es canonical ts frees D s w = (
  (λ M t h. let (s', R, A, d, e) = (term_total es canonical ts frees M).0 D s t w h in
      let k = infers_skeletons es canonical frees d w.state w.local in
      (s', R, A, d, e, stands_behind es canonical ts frees s s' D (infers_adds es frees d w.state.numbered) k.0 w)),
  (λ M A a h. let (s', R, d) = (term_total es canonical ts frees M).1 D s A w a h in
      let k = checks_skeletons es canonical frees d w.state w.local a in
      (s', R, d, stands_behind es canonical ts frees s s' D (checks_adds es frees d w.state.numbered) k.0 w)),
  (λ V t h. let (s', A, d, e) = (type_total es canonical ts frees V).0 D s t w h in
      let k = type_skeletons es canonical frees d w.state w.local in
      (s', A, d, e, stands_behind es canonical ts frees s s' D (type_adds es frees d w.state.numbered) k.0 w)),
  (λ k a t h. let (s', K, d, e) = kind_total es canonical ts frees k D s a t w h in
      let m = kind_skeletons es canonical frees d w.state w.local in
      (s', K, d, e, stands_behind es canonical ts frees s s' D (kind_adds es frees d w.state.numbered) m.0 w)),
)

pub had : ElaboratedHadSkeleton
had es canonical ts frees D s s' w = (
  (λ M R A x. infers_had es canonical ts frees x w),
  (λ M A R a x. checks_had es canonical ts frees x w a),
  (λ V A x. type_had es canonical ts frees x w),
  (λ k K x a. kind_had es canonical ts frees x w a),
)
