use Rattle.lf.specs.Entries.{signature_of}
use Rattle.lf.proofs.Entries.{canonical_is_signature}
use Rattle.lf_unification.specs.Search.{declared_constants}
use Rattle.lf_unification.specs.Solving.{IsWellFormed}
use Rattle.lf_unification.proofs.Solving.{free_values_suffice}
use Rattle.lf_unification.proofs.Sound.{leaves_form}
use Rattle.lf_unification.proofs.leaf_is_typed.Goals as goal

pub returns : goal.returns
returns c = λ es k q w form ls n agenda r l i.
    let f : IsWellFormed (signature_of es) l.store = (leaves_form (signature_of es) (declared_constants es) r (form, tt)).0 l i in
    (f, free_values_suffice (signature_of es) (canonical_is_signature es k) l.store f)
