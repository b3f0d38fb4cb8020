use Rattle.std.proofs.Common.{◌+◌, ◌∷◌, min, length, drop, sym, ap, subst, ◌∙◌, arith}
use Rattle.netlist_spec.specs.Lines.{joined, with_words}
use Rattle.imp_text.specs.declared.lines.Place.{Place}
use Rattle.imp_text.specs.Reading.{lines_from}
use Rattle.imp_text.specs.Tokens.{words_at, StandBetween}
use Rattle.imp_text.proofs.LinesLemmas.{one_line, line_joined, line_ended, nothing_joined}
use Rattle.imp_text.proofs.TokenLemmas.{StandBetween-up_to}
use Rattle.imp_text.proofs.lines.push_logical_line.Goals as goal

pub loop-at-init : goal.loop-at-init
loop-at-init c =
    let source = c.args.source.now in
    let place = c.args.place in
    let rest = lines_from c.args.joins place.before (drop place.start source) in
    record {
      place = c.requires.place;
      from = omega arith;
      lines =
          nothing_joined c.args.joins place.before (drop place.start source)
          ∙ ap (λ tokens. joined (place.before + 1) (words_at source tokens) rest) (sym c.requires.none);
      in_order = subst (StandBetween 0 place.start) (sym c.requires.none) (omega arith);
    }

pub returns-then-not-goes_on-clause-line : goal.returns-then-not-goes_on-clause-line
returns-then-not-goes_on-clause-line c =
    let source = c.args.source.now in
    let at = c.loop-at.at in
    let end = c.line_end-end.result in
    let n = c.args.place.before + 1 in
    ap with_words c.loop-at.invariant.lines
    ∙ line_ended source at.start end c.line_end-end.ensures.end c.args.joins at.before n (words_at source c.loop-at.tokens.items) (sym c.if-not-goes_on.true ∙ c.in_ok-goes_on.ensures.goes_on)
    ∙ ap (λ ws. with_words (one_line n ws ∷ lines_from c.args.joins (at.before + 1) (drop (min (end + 1) (length source)) source))) (sym c.in_ok-goes_on.ensures.words)
    ∙ ap (λ (p : Place). with_words (one_line n (words_at source c.push_line.new.tokens.items) ∷ lines_from c.args.joins p.before (drop p.start source))) (sym c.behind-at.ensures)

pub returns-then-not-goes_on-clause-in_order : goal.returns-then-not-goes_on-clause-in_order
returns-then-not-goes_on-clause-in_order c =
    let start = ap (λ (p : Place). p.start) c.behind-at.ensures in
    StandBetween-up_to 0 c.line_end-end.result c.behind-at.result.start c.push_line.new.tokens.items c.in_ok-goes_on.ensures.places (omega arith)

pub loop-at-preserved : goal.loop-at-preserved
loop-at-preserved c =
    let source = c.args.source.now in
    let at = c.loop-at.at in
    let end = c.line_end-end.result in
    let n = c.args.place.before + 1 in
    let start = ap (λ (p : Place). p.start) c.behind-at.ensures in
    let before = ap (λ (p : Place). p.before) c.behind-at.ensures in
    record {
      place = record { within = omega arith; counted = omega arith };
      from = omega arith;
      lines =
          c.loop-at.invariant.lines
          ∙ line_joined source at.start end c.line_end-end.ensures.end c.args.joins at.before n (words_at source c.loop-at.tokens.items) (sym c.if-not-goes_on.false ∙ c.in_ok-goes_on.ensures.goes_on)
          ∙ ap (λ ws. joined n ws (lines_from c.args.joins (at.before + 1) (drop (min (end + 1) (length source)) source))) (sym c.in_ok-goes_on.ensures.words)
          ∙ ap (λ (p : Place). joined n (words_at source c.push_line.new.tokens.items) (lines_from c.args.joins p.before (drop p.start source))) (sym c.behind-at.ensures);
      in_order =
          StandBetween-up_to 0 end c.behind-at.result.start c.push_line.new.tokens.items c.in_ok-goes_on.ensures.places (omega arith);
    }
