use Rattle.std.proofs.Common.{◌≡◌, IsTrue, arith}
use Rattle.lf.specs.Syntax.{atom, pi}
use Rattle.tw_terms.specs.OpenView.{open_spine_of, open_type_of}
use Rattle.tw_putting.proofs.Environments.{environments}
use Rattle.tw_putting.proofs.PlainTerms.{at_atom, at_pi, domain_in}
use Rattle.tw_putting.proofs.plain.+is_type_all_in.Goals as goal

pub returns-then-is_type_all_in : goal.returns-then-is_type_all_in
returns-then-is_type_all_in t c =
    let p : open_type_of c.args.ty.now ≡ pi (open_type_of c.deref.result.now) (open_type_of c.deref-then-is_type_all_in.result.now) = grind (arith, environments) in
    let b : IsTrue c.is_type_all_in.result = grind (arith, environments) in
    let h = at_pi c.args.store.now.now (IsTrue c.is_type_all_in.result) (IsTrue c.is_type_all_in-then-is_type_all_in.result) (open_type_of c.args.ty.now) (open_type_of c.deref.result.now) (open_type_of c.deref-then-is_type_all_in.result.now) p c.is_type_all_in.ensures c.is_type_all_in-then-is_type_all_in.ensures in
    (λ x. h.0 (b, x), λ y. (h.1 y).1)

pub returns-else-is_type_all_in : goal.returns-else-is_type_all_in
returns-else-is_type_all_in t c =
    let p : open_type_of c.args.ty.now ≡ pi (open_type_of c.deref.result.now) (open_type_of c.in-Pi.range.value) = grind (arith, environments) in
    (λ x. absurd (grind (arith, environments)), λ y. c.is_type_all_in.ensures.1 (domain_in c.args.store.now.now (open_type_of c.args.ty.now) (open_type_of c.deref.result.now) (open_type_of c.in-Pi.range.value) p y))

pub returns-in-Atom : goal.returns-in-Atom
returns-in-Atom t c =
    let p : open_type_of c.args.ty.now ≡ atom c.in-Atom.field-0.0 (open_spine_of c.in-Atom.spine) = grind (arith, environments) in
    at_atom c.args.store.now.now (IsTrue c.is_spine_all_in.result) (open_type_of c.args.ty.now) c.in-Atom.field-0.0 (open_spine_of c.in-Atom.spine) p c.is_spine_all_in.ensures
