use Rattle.lf_closures.specs.Environments.{value_in}
use Rattle.tw_terms.specs.View.{term_of}
use Rattle.tw_hered.specs.View.{environment_of}
use Rattle.tw_hered.specs.declared.waiting.Waiting.TheVariants.{Lambda}
use Rattle.tw_hered.proofs.Whole.{more-fit, more-value, more-shallow}
use Rattle.tw_hered.proofs.waiting.begin_body.Goals as goal

pub returns-clause-value : goal.returns-clause-value
returns-clause-value c = more-value c.args.waiting.now.items c.push.new.self.items Lambda c.in_ok-push.ensures.items (value_in (environment_of c.args.inside.now) (term_of c.args.body.now))

pub returns-clause-waiting : goal.returns-clause-waiting
returns-clause-waiting c = more-fit c.args.waiting.now.items c.push.new.self.items Lambda c.in_ok-push.ensures.items c.requires.waiting tt

pub returns-clause-shallow : goal.returns-clause-shallow
returns-clause-shallow c = λ n l a. more-shallow c.args.waiting.now.items c.push.new.self.items Lambda c.in_ok-push.ensures.items n l a tt
