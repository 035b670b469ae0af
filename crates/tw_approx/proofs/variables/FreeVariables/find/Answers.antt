use Rattle.std.proofs.Common.{◌≡◌, ◌∙◌, sym, ap}
use Rattle.tw_fixity.specs.Names.{variable_of}
use Rattle.tw_approx.proofs.Naming.{names_of, names_reversed, named_at, not_named}
use Rattle.tw_approx.proofs.variables.FreeVariables.find.Goals as goal

pub returns-in-Some : goal.returns-in-Some
returns-in-Some c =
    let n : names_of c.args.self.now ≡ c.self.inside.names = ap names_of (sym c.self.view_is) ∙ names_reversed (λ r. (r.name, r.shape.0)) c.self.inside.rows.items ∙ sym c.self.invariant in
    let e = ap (λ N. variable_of N c.args.name.now) n ∙ ap (variable_of c.self.inside.names) (sym c.as_bytes.ensures) ∙ sym c.variable.ensures ∙ c.in-Some.is in
    c.shape_at.ensures ∙ named_at c.args.self.now c.args.name.now c.in-Some.newer e

pub returns-in-None : goal.returns-in-None
returns-in-None c =
    let n : names_of c.args.self.now ≡ c.self.inside.names = ap names_of (sym c.self.view_is) ∙ names_reversed (λ r. (r.name, r.shape.0)) c.self.inside.rows.items ∙ sym c.self.invariant in
    let e = ap (λ N. variable_of N c.args.name.now) n ∙ ap (variable_of c.self.inside.names) (sym c.as_bytes.ensures) ∙ sym c.variable.ensures ∙ c.in-None.is in
    not_named c.args.self.now c.args.name.now e
