use Rattle.std.proofs.Common.{◌≡◌, length, reverse, true, false, Ok, sym, ap, subst, ◌∙◌, rules}
use Rattle.std.proofs.lemmas.Result.{err_from_is_err_and}
use Rattle.tw_parse.proofs.Stopping.{exits}
use Rattle.tw_parse.specs.View.{term_of}
use Rattle.tw_parse.specs.declared.decl.ExtName.{ExtName}
use Rattle.tw_parse.proofs.Views.{term_of-Star}
use Rattle.tw_parse_checks.specs.Faults.{IsFault}
use Rattle.tw_parse_checks.specs.Parts.{bound_over, name_at, seen}
use Rattle.tw_parse_checks.specs.declared.check.CheckForm.TheVariants.{Block}
use Rattle.tw_parse_checks.proofs.Tokens.{same_name}
use Rattle.tw_parse_checks.proofs.Blocks.{Labelled, block_at_fault, block_entry_fault, block_reads, block_some_fault, block_without_end, block_without_label, block_without_word, is_block_here}
use Rattle.tw_parse_checks.proofs.Forms.{it_fails, it_holds}
use Rattle.tw_parse_checks.proofs.block.block.Goals as goal

pub returns-then-not-is_label-clause-fault : goal.returns-then-not-is_label-clause-fault
returns-then-not-is_label-clause-fault c =
    let fails : c.is_label.result ≡ false = search rules in
    block_without_label c.args.source.now c.place.result (it_fails c.is_label.result _ _ fails c.is_label.ensures.labels) c.place.ensures

pub returns-in_err-some-clause-fault : goal.returns-in_err-some-clause-fault
returns-in_err-some-clause-fault c =
    let source = c.args.source.now in
    let p = err_from_is_err_and c.from_residual.result c.from_residual.ensures.1 in
    let f = c.in_err-some.field-0.0 in
    let holds : c.is_label.result ≡ true = search rules in
    exits c.from_residual.result p.0 f (IsFault source Block) p.1 p.2 (block_some_fault source (name_at source 1) f (it_holds c.is_label.result _ _ holds c.is_label.ensures.labels) c.in_err-some.ensures.fault)

pub returns-then-not-says-clause-fault : goal.returns-then-not-says-clause-fault
returns-then-not-says-clause-fault c =
    let source = c.args.source.now in
    let holds : c.is_label.result ≡ true = search rules in
    let isnt : c.says.result ≡ false = search rules in
    block_without_word source (name_at source 1) c.in_ok-some.some c.in_ok-some.at c.place-then-not-says.result (it_holds c.is_label.result _ _ holds c.is_label.ensures.labels) c.in_ok-some.ensures.reads (it_fails c.says.result _ _ isnt c.says.ensures.says)
    c.place-then-not-says.ensures

pub returns-in_err-entries-clause-fault : goal.returns-in_err-entries-clause-fault
returns-in_err-entries-clause-fault c =
    let source = c.args.source.now in
    let p = err_from_is_err_and c.from_residual-in_err-entries.result c.from_residual-in_err-entries.ensures.1 in
    let f = c.in_err-entries.field-0.0 in
    let holds : c.is_label.result ≡ true = search rules in
    let says : c.says.result ≡ true = search rules in
    exits c.from_residual-in_err-entries.result p.0 f (IsFault source Block) p.1 p.2
    (block_entry_fault source (name_at source 1) c.in_ok-some.some c.in_ok-some.at f (it_holds c.is_label.result _ _ holds c.is_label.ensures.labels) c.in_ok-some.ensures.reads (it_holds c.says.result _ _ says c.says.ensures.says) c.in_err-entries.ensures.fault)

pub returns-then-not-closes-clause-fault : goal.returns-then-not-closes-clause-fault
returns-then-not-closes-clause-fault c =
    let source = c.args.source.now in
    let holds : c.is_label.result ≡ true = search rules in
    let says : c.says.result ≡ true = search rules in
    let fails : c.closes.result ≡ false = search rules in
    block_without_end source (name_at source 1) c.in_ok-some.some c.in_ok-entries.entries c.in_ok-some.at c.in_ok-entries.end c.place-then-not-closes.result (it_holds c.is_label.result _ _ holds c.is_label.ensures.labels) c.in_ok-some.ensures.reads
    (it_holds c.says.result _ _ says c.says.ensures.says) c.in_ok-entries.ensures.reads c.in_ok-entries.ensures.stops (it_fails c.closes.result _ _ fails c.closes.ensures) c.place-then-not-closes.ensures

pub returns-in-AtFault-clause-fault : goal.returns-in-AtFault-clause-fault
returns-in-AtFault-clause-fault c =
    let source = c.args.source.now in
    let holds : c.is_label.result ≡ true = search rules in
    let says : c.says.result ≡ true = search rules in
    let closes : c.closes.result ≡ true = search rules in
    let bound = c.in_ok-entries.entries in
    let whole = is_block_here source (name_at source 1) c.in_ok-some.some bound c.in_ok-some.at c.in_ok-entries.end (it_holds c.is_label.result _ _ holds c.is_label.ensures.labels) c.in_ok-some.ensures.reads (it_holds c.says.result _ _ says c.says.ensures.says)
    c.in_ok-entries.ensures.reads (it_holds c.closes.result _ _ closes c.closes.ensures) in
    block_at_fault source (name_at source 1) c.in_ok-some.some bound (seen c.in_ok-behind.behind) c.in-AtFault.place whole
    (c.in_ok-behind.ensures ∙ ap (λ M. bound_over (reverse bound.variables.items) (reverse bound.domains.items) (Ok M)) term_of-Star) (sym (ap seen c.in-AtFault.is) ∙ c.in_ok-place.ensures)

pub returns-in_ok-name-in-Term-clause-reads : goal.returns-in_ok-name-in-Term-clause-reads
returns-in_ok-name-in-Term-clause-reads c =
    let source = c.args.source.now in
    let holds : c.is_label.result ≡ true = search rules in
    let says : c.says.result ≡ true = search rules in
    let closes : c.closes.result ≡ true = search rules in
    let bound = c.in_ok-entries.entries in
    let label = c.in_ok-label.label in
    let named : label ≡ name_at source 1 = same_name label (name_at source 1) c.in_ok-label.ensures.0 c.in_ok-label.ensures.1 in
    let labelled : Labelled source label = subst (λ (l : ExtName). Labelled source l) (sym named) (it_holds c.is_label.result _ _ holds c.is_label.ensures.labels) in
    let whole = is_block_here source label c.in_ok-some.some bound c.in_ok-some.at c.in_ok-entries.end labelled c.in_ok-some.ensures.reads (it_holds c.says.result _ _ says c.says.ensures.says) c.in_ok-entries.ensures.reads (it_holds c.closes.result _ _ closes c.closes.ensures) in
    let counted : c.len-count.result ≡ length c.in_ok-some.some.variables.items = search rules in
    block_reads source label c.in_ok-some.some bound (seen c.in_ok-behind.behind) (term_of c.in-Term.kind) c.len-count.result c.in_ok-name-in-Term.name whole
    (c.in_ok-behind.ensures ∙ ap (λ M. bound_over (reverse bound.variables.items) (reverse bound.domains.items) (Ok M)) term_of-Star) (sym (ap seen c.in-Term.is) ∙ c.in_ok-place.ensures) counted c.in_ok-name-in-Term.ensures
