use Rattle.std.proofs.Common.{map}
use Rattle.tw_terms.specs.OpenView.{open_term_of}
use Rattle.tw_prune.specs.View.{loss_of, table_of}
use Rattle.tw_prune.proofs.Meanings.{each_loss_means, losses_mean}
use Rattle.tw_prune.proofs.Options.{if_ok}
use Rattle.tw_prune.proofs.drops.losses.Goals as goal

pub returns-clause-found : goal.returns-clause-found
returns-clause-found c = if_ok c.losses_under.result _ _ (λ v e. losses_mean c.args.inner c.args.pattern.now (open_term_of c.args.term.now) (table_of c.in_ok-of.field-0) c.in_ok-of.ensures (map loss_of v.items) e) c.losses_under.ensures

pub returns-clause-each : goal.returns-clause-each
returns-clause-each c = if_ok c.losses_under.result _ _ (λ v e. each_loss_means c.args.inner c.args.pattern.now (open_term_of c.args.term.now) (table_of c.in_ok-of.field-0) c.in_ok-of.ensures (map loss_of v.items) e) c.losses_under.ensures
