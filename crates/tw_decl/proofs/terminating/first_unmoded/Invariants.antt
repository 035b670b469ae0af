use Rattle.std.proofs.Common.{◌≡◌}
use Rattle.std.specs.Prelude.{drop, map}
use Rattle.lf_checks.specs.ModeRows.{first_unmoded, is_moded}
use Rattle.tw_mode.specs.ModeTables.{mode_rows}
use Rattle.tw_terms.specs.declared.canonical.ConstId.{ConstId}
use Rattle.tw_decl.proofs.terminating.first_unmoded.Given as goal

abbrev pub invariant-loop-family : goal.invariant-loop-family
invariant-loop-family l = first_unmoded (is_moded (mode_rows l.session.checked.modes)) (map (λ (f : ConstId). f.0) (drop l.family-index l.families)) ≡ first_unmoded (is_moded (mode_rows l.session.checked.modes)) (map (λ (f : ConstId). f.0) l.families)
