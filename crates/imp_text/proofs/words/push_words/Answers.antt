use Rattle.std.proofs.Common.{arith, sym, ap, refl, subst, ◌∙◌, ◌++◌, ◌∷◌, [], ◌<◌, ◌+◌, ◌≤◌, append_assoc}
use Rattle.std.specs.List.{slice_range}
use Rattle.std.proofs.lemmas.List.{map_push}
use Rattle.std.proofs.lemmas.Slice.{pushed}
use Rattle.netlist_spec.specs.Lines.{words}
use Rattle.imp_text.specs.Tokens.{word_at, words_at, StandBetween}
use Rattle.imp_text.proofs.TokenLemmas.{StandBetween-up_to, StandBetween-push}
use Rattle.imp_text.proofs.WordLemmas.{words-slice_blank, words-slice_word, length-slice_range}
use Rattle.imp_text.specs.declared.token.Token.{Token}
use Rattle.imp_text.proofs.words.push_words.Goals as goal

pub loop-at-preserved-then-len-eq0 : goal.loop-at-preserved-then-len-eq0
loop-at-preserved-then-len-eq0 c =
    let source = c.args.source.now in
    let at = c.loop-at.at in
    record {
      within = omega arith;
      words =
          ap (λ ws. words_at source c.loop-at.tokens.items ++ ws) (sym (words-slice_blank source at c.args.end (omega arith) c.requires.within (sym c.word_len-len.ensures.len ∙ c.if-len-eq0.true)))
          ∙ c.loop-at.invariant.words;
      places = StandBetween-up_to 0 at (at + 1) c.loop-at.tokens.items c.loop-at.invariant.places (omega arith);
    }

pub loop-at-preserved : goal.loop-at-preserved
loop-at-preserved c =
    let source = c.args.source.now in
    let at = c.loop-at.at in
    let n = c.word_len-len.result in
    let token : Token = record { start = at; end = at + n } in
    let some : 0 < n = omega arith in
    let within : at + n ≤ c.args.end = omega (arith, length-slice_range source at c.args.end (omega arith) c.requires.within) in
    let added = pushed (token ∷ []) refl c.in_ok-push.was c.push.ensures.items in
    record {
      within = within;
      words =
          ap (λ tokens. words_at source tokens ++ words (slice_range source (at + n) c.args.end)) added
          ∙ ap (λ ws. ws ++ words (slice_range source (at + n) c.args.end)) (map_push (word_at source) c.loop-at.tokens.items token)
          ∙ append_assoc (words_at source c.loop-at.tokens.items) (word_at source token ∷ []) (words (slice_range source (at + n) c.args.end))
          ∙ ap (λ ws. words_at source c.loop-at.tokens.items ++ ws) (sym (words-slice_word source at c.args.end n within some c.word_len-len.ensures.len))
          ∙ c.loop-at.invariant.words;
      places =
          subst (StandBetween 0 (at + n)) (sym added) (StandBetween-push 0 at (at + n) c.loop-at.tokens.items token c.loop-at.invariant.places (omega arith) (omega arith) (omega arith));
    }
