use Rattle.lf.specs.Entries.{signature_of}
use Rattle.lf.proofs.Entries.{canonical_is_signature}
use Rattle.lf_unification.specs.Dependency.{free_context, values}
use Rattle.lf_unification.specs.OpenTyping.{skeletons_of}
use Rattle.lf_unification.specs.Search.{declared_constants}
use Rattle.lf_unification.specs.Solving.{IsWellFormed}
use Rattle.lf_unification.proofs.Query.{leaf_answers}
use Rattle.lf_unification.proofs.Solving.{well_formed_answer}
use Rattle.lf_unification.proofs.Sound.{leaves_form}
use Rattle.lf_unification.proofs.answer_is_typed.Goals as goal

pub returns : goal.returns
returns c = λ es k q w form ls n agenda r l i e.
    let f : IsWellFormed (signature_of es) l.store = (leaves_form (signature_of es) (declared_constants es) r (form, tt)).0 l i in
    let (shown, proof, x, a) = leaf_answers (signature_of es) (canonical_is_signature es k) (declared_constants es) q w r l i (free_context (skeletons_of l.store.metavariables) f.order) (values (skeletons_of l.store.metavariables) f.order) (well_formed_answer (signature_of es) (canonical_is_signature es k) l.store f e) in
    (f, shown, proof, x, a)
