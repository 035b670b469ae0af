use Rattle.std.proofs.Common.{◌++◌, sym, subst}
use Rattle.lf.specs.Entries.{signature_of}
use Rattle.lf.specs.Typing.{IsKind}
use Rattle.lf.proofs.Entries.{canonical_is_signature}
use Rattle.lf.proofs.Substitution.{family_kind}
use Rattle.tw_terms.specs.View.{kind_of}
use Rattle.tw_kernel.proofs.types.+is_type.Goals as goal

pub fits_kind-requires-clause-kind : goal.fits_kind-requires-clause-kind
fits_kind-requires-clause-kind t c =
    subst (IsKind (signature_of c.args.signature.now) (c.args.inner.now ++ c.args.outer.now)) (sym c.in_ok-kind-in-Some.ensures)
    (family_kind (signature_of c.args.signature.now) (canonical_is_signature c.args.signature.now c.requires.canonical) (c.args.inner.now ++ c.args.outer.now) c.in-Atom.family.0 (kind_of c.in-Some.kind.now) (sym c.in-Some.ensures))
