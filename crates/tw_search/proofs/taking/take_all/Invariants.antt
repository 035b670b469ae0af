use Rattle.std.proofs.Common.{◌≡◌, [], ◌++◌, length, map}
use Rattle.lf.specs.Entries.{quantifiers}
use Rattle.lf.specs.Variables.{target_arguments}
use Rattle.lf_search.specs.AppliedHeads.{type_with_applied}
use Rattle.tw_terms.specs.declared.canonical.MetaId.{MetaId}
use Rattle.tw_terms.specs.OpenView.{open_spine_of}
use Rattle.tw_open.specs.Fits.{TypeStands}
use Rattle.tw_open.specs.Fresh.{OnlyDeclares}
use Rattle.tw_open.specs.View.{made_with}
use Rattle.tw_search.specs.Applied.{taken_at}
use Rattle.tw_search.specs.HeadTypes.{head_type_of}
use Rattle.tw_search.specs.Taking.{numbers_from}
use Rattle.tw_search.proofs.NewTerms.{TakesBefore}
use Rattle.tw_search.proofs.taking.take_all.Given as goal

-- the arguments so far, and what the rest of the type gives with the metavariables put in
abbrev pub invariant-loop-domain : goal.invariant-loop-domain
invariant-loop-domain l = record {
  stands : TypeStands (made_with [] l.store.now) l.locals (type_with_applied (taken_at (open_spine_of l.arguments) l.metas.items 0) (head_type_of l.rest));
  keeps : OnlyDeclares l.fn.store l.store;
  numbers : numbers_from (length l.fn.store.now.declared) (head_type_of l.fn.ty) ≡ map (λ (m : MetaId). m.0) l.metas.items ++ numbers_from (length l.store.now.declared) (type_with_applied (taken_at (open_spine_of l.arguments) l.metas.items 0) (head_type_of l.rest));
  target : target_arguments (head_type_of l.rest) ≡ target_arguments (head_type_of l.fn.ty);
  so_far : TakesBefore l.locals (head_type_of l.fn.ty) l.fn.store.now (type_with_applied (taken_at (open_spine_of l.arguments) l.metas.items 0) (head_type_of l.rest)) l.store.now l.args.items;
}

-- the quantifiers that are left
abbrev pub decreases-loop-domain : goal.decreases-loop-domain
decreases-loop-domain l = quantifiers (head_type_of l.rest)
