use Rattle.std.proofs.Common.{ℕ, arith, ap, sym, ◌∙◌}
use Rattle.tw_lexer.specs.Comments.{deep}
use Rattle.tw_lexer.specs.Tokens.{token, between, in_comment}
use Rattle.tw_lexer.specs.declared.place.Place.{Place}
use Rattle.tw_lexer.specs.declared.class.Class.TheVariants.{WhiteSpace, Mark, Plain, Bad}
use Rattle.tw_lexer.specs.declared.comment.Sign.TheVariants.{LineComment, Comment, Stop, Word, Nothing}
use Rattle.tw_lexer.specs.declared.token.TokenKind.TheVariants.{Ident, Keyword, End}
use Rattle.tw_lexer.proofs.Finds.{good, told, bad, seek, between-by, between-none, percent-by, seek-end}
use Rattle.tw_lexer.proofs.lexer.next_token.Goals as goal

pub returns-in-None-clause-token : goal.returns-in-None-clause-token
returns-in-None-clause-token c =
    sym (
    c.loop-spot.invariant.same
    ∙ between-none c.args.text.now c.loop-spot.spot.byte c.loop-spot-test.true c.in-None.ensures
    ∙ ap bad (sym c.loop-spot.invariant.here.at)
    )

pub loop-spot-preserved-in-WhiteSpace : goal.loop-spot-preserved-in-WhiteSpace
loop-spot-preserved-in-WhiteSpace c =
    let next = c.in-Some.next in
    let b = c.in-Some.ensures in
    record {
      here = b.there;
      later = omega (arith, b.later, c.loop-spot.invariant.later);
      same =
          c.loop-spot.invariant.same
          ∙ between-by c.args.text.now c.loop-spot.spot.byte next.1.byte next.0 WhiteSpace c.loop-spot-test.true b.byte b.stands c.in-WhiteSpace.ensures;
    }

pub returns-in-Mark-clause-token : goal.returns-in-Mark-clause-token
returns-in-Mark-clause-token c =
    let next = c.in-Some.next in
    let b = c.in-Some.ensures in
    told c.args.text.now c.in-Mark.kind c.loop-spot.spot.byte next.1.byte c.loop-spot.spot.place c.token.result c.token.ensures c.loop-spot.invariant.here.at
    ∙ sym (
    c.loop-spot.invariant.same
    ∙ between-by c.args.text.now c.loop-spot.spot.byte next.1.byte next.0 (Mark c.in-Mark.kind) c.loop-spot-test.true b.byte b.stands c.in-Mark.ensures
    )

pub loop-spot-preserved-in-Ok : goal.loop-spot-preserved-in-Ok
loop-spot-preserved-in-Ok c =
    let next = c.in-Some.next in
    let b = c.in-Some.ensures in
    let r = c.in-Ok.ensures in
    record {
      here = r.0;
      later = omega (arith, r.1, b.later, c.loop-spot.invariant.later);
      same =
          c.loop-spot.invariant.same
          ∙ percent-by c.args.text.now c.loop-spot.spot.byte next.1.byte next.0 LineComment c.loop-spot-test.true b.byte b.stands c.in-Percent.ensures c.in-LineComment.ensures
          ∙ r.2;
    }

pub returns-in-Err-clause-token : goal.returns-in-Err-clause-token
returns-in-Err-clause-token c =
    let next = c.in-Some.next in
    let b = c.in-Some.ensures in
    sym (
    c.loop-spot.invariant.same
    ∙ percent-by c.args.text.now c.loop-spot.spot.byte next.1.byte next.0 LineComment c.loop-spot-test.true b.byte b.stands c.in-Percent.ensures c.in-LineComment.ensures
    ∙ c.in-Err.ensures
    )

pub loop-spot-preserved : goal.loop-spot-preserved
loop-spot-preserved c =
    let next = c.in-Some.next in
    let b = c.in-Some.ensures in
    let r = c.in-Ok-skip_comment.ensures in
    record {
      here = r.0;
      later = omega (arith, r.1, b.later, c.loop-spot.invariant.later);
      same =
          c.loop-spot.invariant.same
          ∙ percent-by c.args.text.now c.loop-spot.spot.byte next.1.byte next.0 Comment c.loop-spot-test.true b.byte b.stands c.in-Percent.ensures c.in-Comment.ensures
          ∙ ap (λ (p : Place). seek c.args.text.now (in_comment p (deep 1)) next.1.byte) (sym c.loop-spot.invariant.here.at)
          ∙ r.2;
    }

pub returns-in-Err-skip_comment-clause-token : goal.returns-in-Err-skip_comment-clause-token
returns-in-Err-skip_comment-clause-token c =
    let next = c.in-Some.next in
    let b = c.in-Some.ensures in
    sym (
    c.loop-spot.invariant.same
    ∙ percent-by c.args.text.now c.loop-spot.spot.byte next.1.byte next.0 Comment c.loop-spot-test.true b.byte b.stands c.in-Percent.ensures c.in-Comment.ensures
    ∙ ap (λ (p : Place). seek c.args.text.now (in_comment p (deep 1)) next.1.byte) (sym c.loop-spot.invariant.here.at)
    ∙ c.in-Err-skip_comment.ensures
    )

pub returns-in-Stop-clause-token : goal.returns-in-Stop-clause-token
returns-in-Stop-clause-token c =
    let next = c.in-Some.next in
    let b = c.in-Some.ensures in
    told c.args.text.now End c.loop-spot.spot.byte c.loop-spot.spot.byte c.loop-spot.spot.place c.token-in-Stop.result c.token-in-Stop.ensures c.loop-spot.invariant.here.at
    ∙ sym (
    c.loop-spot.invariant.same
    ∙ percent-by c.args.text.now c.loop-spot.spot.byte next.1.byte next.0 Stop c.loop-spot-test.true b.byte b.stands c.in-Percent.ensures c.in-Stop.ensures
    )

pub returns-in-Word-clause-token : goal.returns-in-Word-clause-token
returns-in-Word-clause-token c =
    let next = c.in-Some.next in
    let b = c.in-Some.ensures in
    told c.args.text.now Keyword c.loop-spot.spot.byte c.run_end-upto.result c.loop-spot.spot.place c.token-in-Word.result c.token-in-Word.ensures c.loop-spot.invariant.here.at
    ∙ ap (λ (u : ℕ). good (token c.args.text.now Keyword c.loop-spot.spot.byte u)) c.run_end-upto.ensures.end
    ∙ sym (
    c.loop-spot.invariant.same
    ∙ percent-by c.args.text.now c.loop-spot.spot.byte next.1.byte next.0 Word c.loop-spot-test.true b.byte b.stands c.in-Percent.ensures c.in-Word.ensures
    )

pub returns-in-Nothing-clause-token : goal.returns-in-Nothing-clause-token
returns-in-Nothing-clause-token c =
    let next = c.in-Some.next in
    let b = c.in-Some.ensures in
    sym (
    c.loop-spot.invariant.same
    ∙ percent-by c.args.text.now c.loop-spot.spot.byte next.1.byte next.0 Nothing c.loop-spot-test.true b.byte b.stands c.in-Percent.ensures c.in-Nothing.ensures
    ∙ ap bad (sym c.loop-spot.invariant.here.at)
    )

pub returns-in-Plain-clause-token : goal.returns-in-Plain-clause-token
returns-in-Plain-clause-token c =
    let next = c.in-Some.next in
    let b = c.in-Some.ensures in
    told c.args.text.now Ident c.loop-spot.spot.byte c.run_end-upto-in-Plain.result c.loop-spot.spot.place c.token-in-Plain.result c.token-in-Plain.ensures c.loop-spot.invariant.here.at
    ∙ ap (λ (u : ℕ). good (token c.args.text.now Ident c.loop-spot.spot.byte u)) c.run_end-upto-in-Plain.ensures.end
    ∙ sym (
    c.loop-spot.invariant.same
    ∙ between-by c.args.text.now c.loop-spot.spot.byte next.1.byte next.0 Plain c.loop-spot-test.true b.byte b.stands c.in-Plain.ensures
    )

pub returns-in-Bad-clause-token : goal.returns-in-Bad-clause-token
returns-in-Bad-clause-token c =
    let next = c.in-Some.next in
    let b = c.in-Some.ensures in
    sym (
    c.loop-spot.invariant.same
    ∙ between-by c.args.text.now c.loop-spot.spot.byte next.1.byte next.0 Bad c.loop-spot-test.true b.byte b.stands c.in-Bad.ensures
    ∙ ap bad (sym c.loop-spot.invariant.here.at)
    )

pub returns-clause-token : goal.returns-clause-token
returns-clause-token c =
    told c.args.text.now End c.loop-spot.spot.byte c.loop-spot.spot.byte c.loop-spot.spot.place c.token-2.result c.token-2.ensures c.loop-spot.invariant.here.at
    ∙ sym (c.loop-spot.invariant.same ∙ seek-end c.args.text.now between c.loop-spot.spot.byte c.loop-spot-test.false)
