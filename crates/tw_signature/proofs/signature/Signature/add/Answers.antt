use Rattle.std.proofs.Common.{◌≡◌, ◌++◌, ◌∷◌, ◌∙◌, [], ap, length, rules, subst, sym}
use Rattle.lf.specs.Entries.{signature_of, IsCanonicalEntry}
use Rattle.tw_signature.specs.View.{entry_of, entries_of}
use Rattle.tw_signature.specs.Constants.{numbers_of, with_constant}
use Rattle.tw_signature.proofs.FamilyConstants.{family_within, kept}
use Rattle.tw_signature.proofs.Numbers.{length-entries_of}
use Rattle.tw_signature.proofs.KeptMarks.{marks_added}
use Rattle.tw_signature.proofs.NewestNames.{added}
use Rattle.tw_signature.proofs.signature.Signature.add.Goals as goal

pub reserve-requires-2 : goal.reserve-requires-2
reserve-requires-2 c =
    let may : IsCanonicalEntry (signature_of (entries_of c.self.inside.entries.items)) (entry_of c.args.entry) = subst (λ es. IsCanonicalEntry (signature_of es) (entry_of c.args.entry)) (sym c.self.view_is) c.requires in
    family_within (entries_of c.self.inside.entries.items) (entry_of c.args.entry) c.self.inside.constants c.family-family.result may c.family-family.ensures c.self.invariant.2

pub invariant_of-self-2 : goal.invariant_of-self-2
invariant_of-self-2 c =
    let may : IsCanonicalEntry (signature_of (entries_of c.self.inside.entries.items)) (entry_of c.args.entry) = subst (λ es. IsCanonicalEntry (signature_of es) (entry_of c.args.entry)) (sym c.self.view_is) c.requires in
    let pushed : c.push.new.self.items ≡ c.self.inside.entries.items ++ c.args.entry ∷ [] = search rules in
    let number : c.len-number.result ≡ length c.self.inside.entries.items = c.len-number.ensures ∙ ap length (sym c.self.view_is) ∙ length-entries_of c.self.inside.entries.items in
    let lists : numbers_of c.add.new.self ≡ with_constant (numbers_of c.self.inside.constants) c.family-family.result c.len-number.result ++ [] ∷ [] =
    c.add.ensures ∙ ap (λ ns. with_constant ns c.family-family.result c.len-number.result ++ [] ∷ []) c.reserve-2.ensures.same in
    let (may_stand, named) =
    added c.self.inside.entries.items c.push.new.self.items c.args.entry c.self.inside.newest c.insert.new.self c.len-number.result c.in_ok-name.name.items pushed number (search rules)
    (c.self.invariant.0, c.self.invariant.1) may c.in_ok-insert.ensures.updates in (
      may_stand,
      named,
      kept c.self.inside.entries.items c.push.new.self.items c.args.entry c.self.inside.constants c.add.new.self c.family-family.result c.len-number.result pushed number c.family-family.ensures may
          c.self.invariant.2 lists,
      marks_added c.self.inside.entries.items c.push.new.self.items c.args.entry c.self.inside.marks.items c.push-2.new.self.items c.in_ok-marks.marks pushed (search rules) c.in_ok-marks.ensures c.self.invariant.3,
    )
