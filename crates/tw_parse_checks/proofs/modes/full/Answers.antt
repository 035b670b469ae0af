use Rattle.std.proofs.Common.{◌≡◌, length, true, false, sym, ap, ◌∙◌, rules}
use Rattle.tw_parse.specs.View.{term_of}
use Rattle.tw_parse_checks.specs.Meanings.{keeps_rules, family_on}
use Rattle.tw_parse_checks.specs.Parts.{seen}
use Rattle.tw_parse_checks.proofs.Forms.{full_at_fault, full_breaks_rules, full_reads, full_without_end, full_without_family, is_full, it_fails, it_holds, it_is_none, it_is_some}
use Rattle.tw_parse_checks.proofs.modes.full.Goals as goal

pub returns-in_default-clause-fault : goal.returns-in_default-clause-fault
returns-in_default-clause-fault c =
    let source = c.args.source.now in
    full_without_family source c.args.quantified c.args.at c.place.result c.requires.quantified c.requires.some c.requires.no_head (it_is_none c.in_ok-found.field-0 _ _ c.in_default.is c.in_ok-found.ensures) c.place.ensures

pub returns-then-not-closes-clause-fault : goal.returns-then-not-closes-clause-fault
returns-then-not-closes-clause-fault c =
    let source = c.args.source.now in
    let found = c.in-Some.found in
    let fails : c.closes.result ≡ false = search rules in
    full_without_end source c.args.quantified c.args.at found.1 c.in_ok-names.end found.0 c.in_ok-names.names.items c.place-then-not-closes.result c.requires.quantified c.requires.some c.requires.no_head
    (it_is_some c.in_ok-found.field-0 found _ _ c.in-Some.is c.in_ok-found.ensures) c.in_ok-names.ensures.reads c.in_ok-names.ensures.stops (it_fails c.closes.result _ _ fails c.closes.ensures) c.place-then-not-closes.ensures

pub returns-in-AtFault-clause-fault : goal.returns-in-AtFault-clause-fault
returns-in-AtFault-clause-fault c =
    let source = c.args.source.now in
    let found = c.in-Some.found in
    let holds : c.closes.result ≡ true = search rules in
    let whole = is_full source c.args.quantified c.args.at found.1 c.in_ok-names.end found.0 c.in_ok-names.names.items c.requires.quantified c.requires.some c.requires.no_head
    (it_is_some c.in_ok-found.field-0 found _ _ c.in-Some.is c.in_ok-found.ensures) c.in_ok-names.ensures.reads (it_holds c.closes.result _ _ holds c.closes.ensures) in
    full_at_fault source c.args.quantified found.0 c.in_ok-names.names.items (term_of c.in_ok-target.target) c.in-AtFault.place whole (sym (ap seen c.in-AtFault.is) ∙ c.in_ok-whole.ensures)

pub returns-then-not-lawful-clause-fault : goal.returns-then-not-lawful-clause-fault
returns-then-not-lawful-clause-fault c =
    let source = c.args.source.now in
    let found = c.in-Some.found in
    let holds : c.closes.result ≡ true = search rules in
    let broken : keeps_rules c.args.quantified.bound.variables.items c.in_ok-names.names.items ≡ false = search rules in
    let whole = is_full source c.args.quantified c.args.at found.1 c.in_ok-names.end found.0 c.in_ok-names.names.items c.requires.quantified c.requires.some c.requires.no_head
    (it_is_some c.in_ok-found.field-0 found _ _ c.in-Some.is c.in_ok-found.ensures) c.in_ok-names.ensures.reads (it_holds c.closes.result _ _ holds c.closes.ensures) in
    full_breaks_rules source c.args.quantified found.0 c.in_ok-names.names.items (term_of c.in_ok-target.target) (term_of c.in-Term.ty) c.place-then-not-lawful.result whole (sym (ap seen c.in-Term.is) ∙ c.in_ok-whole.ensures) broken c.place-then-not-lawful.ensures

pub returns-in_ok-name-in-Term-clause-reads : goal.returns-in_ok-name-in-Term-clause-reads
returns-in_ok-name-in-Term-clause-reads c =
    let source = c.args.source.now in
    let found = c.in-Some.found in
    let holds : c.closes.result ≡ true = search rules in
    let kept : keeps_rules c.args.quantified.bound.variables.items c.in_ok-names.names.items ≡ true = search rules in
    let whole = is_full source c.args.quantified c.args.at found.1 c.in_ok-names.end found.0 c.in_ok-names.names.items c.requires.quantified c.requires.some c.requires.no_head
    (it_is_some c.in_ok-found.field-0 found _ _ c.in-Some.is c.in_ok-found.ensures) c.in_ok-names.ensures.reads (it_holds c.closes.result _ _ holds c.closes.ensures) in
    let counted : c.len-count.result ≡ length c.in_ok-names.names.items = search rules in
    full_reads source c.args.quantified found.0 c.in_ok-names.names.items (term_of c.in_ok-target.target) (term_of c.in-Term.ty) c.len-count.result c.in_ok-name-in-Term.name whole (c.in_ok-target.ensures ∙ ap (family_on found.0) c.deref-3.ensures.value) (sym (ap seen c.in-Term.is) ∙ c.in_ok-whole.ensures) kept counted
    c.in_ok-name-in-Term.ensures
