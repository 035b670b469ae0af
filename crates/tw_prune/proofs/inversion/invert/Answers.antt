use Rattle.std.proofs.Common.{◌≡◌, None, [], ap, map, sym, ◌∙◌, arith}
use Rattle.std.specs.Prelude.{false, option_map}
use Rattle.tw_terms.specs.OpenView.{open_term_of}
use Rattle.tw_prune.specs.View.{loss_of, table_of}
use Rattle.tw_prune.specs.Walks.{escapes, losses_in, unrenamed}
use Rattle.tw_prune.proofs.Meanings.{first_loss, hindered_means, inverted_means, losses_mean, never_means, no_loss, outside_means}
use Rattle.tw_prune.proofs.Options.{not_some}
use Rattle.tw_prune.proofs.Walking.{walks}
use Rattle.tw_prune.proofs.inversion.invert.Goals as goal

pub returns-in-Some : goal.returns-in-Some
returns-in-Some c = inverted_means c.args.inner c.args.pattern.now (open_term_of c.args.term.now) (table_of c.in_ok-inverse.inverse) c.in_ok-inverse.ensures (open_term_of c.in-Some.body) (sym c.in_ok-body.ensures ∙ ap (option_map open_term_of) c.in-Some.is)

pub returns-then-branch : goal.returns-then-branch
returns-then-branch c = never_means c.args.inner c.args.pattern.now (open_term_of c.args.term.now) (table_of c.in_ok-inverse.inverse) c.in_ok-inverse.ensures (sym c.in_ok-escapes.ensures ∙ c.if-branch.true)

pub returns-in-Some-first : goal.returns-in-Some-first
returns-in-Some-first c =
    let none : unrenamed (table_of c.in_ok-inverse.inverse) 0 (open_term_of c.args.term.now) ≡ None = not_some open_term_of c.in_ok-body.field-0 (unrenamed (table_of c.in_ok-inverse.inverse) 0 (open_term_of c.args.term.now)) c.in_default.not-Some c.in_ok-body.ensures in (
      hindered_means c.args.inner c.args.pattern.now (open_term_of c.args.term.now) (table_of c.in_ok-inverse.inverse) c.in_ok-inverse.ensures none (sym c.in_ok-escapes.ensures ∙ c.if-branch.false),
      λ Ψ D t st h. losses_mean c.args.inner c.args.pattern.now (open_term_of c.args.term.now) (table_of c.in_ok-inverse.inverse) c.in_ok-inverse.ensures (map loss_of c.in_ok-losses.losses.items) c.in_ok-losses.ensures Ψ D t st h c.in-Some-first.loss.now.meta.0 c.in-Some-first.loss.now.place
          (first_loss c.in_ok-losses.losses.items c.in-Some-first.loss.now (grind (arith, walks))),
    )

pub returns : goal.returns
returns c =
    let none : unrenamed (table_of c.in_ok-inverse.inverse) 0 (open_term_of c.args.term.now) ≡ None = not_some open_term_of c.in_ok-body.field-0 (unrenamed (table_of c.in_ok-inverse.inverse) 0 (open_term_of c.args.term.now)) c.in_default.not-Some c.in_ok-body.ensures in
    let kept : escapes (table_of c.in_ok-inverse.inverse) 0 (open_term_of c.args.term.now) ≡ false = sym c.in_ok-escapes.ensures ∙ c.if-branch.false in
    let empty : [] ≡ losses_in (table_of c.in_ok-inverse.inverse) 0 (open_term_of c.args.term.now) = no_loss c.in_ok-losses.losses.items (grind (arith, walks)) ∙ c.in_ok-losses.ensures in
    (hindered_means c.args.inner c.args.pattern.now (open_term_of c.args.term.now) (table_of c.in_ok-inverse.inverse) c.in_ok-inverse.ensures none kept, outside_means c.args.inner c.args.pattern.now (open_term_of c.args.term.now) (table_of c.in_ok-inverse.inverse) c.in_ok-inverse.ensures none kept empty)
