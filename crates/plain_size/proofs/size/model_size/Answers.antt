use Rattle.std.proofs.Common.{◌≡◌, ◌*◌, ◌∙◌, ap, subst, ℕ, min}
use Rattle.guard_spec.specs.Codes.{Code, rail_count}
use Rattle.guard_spec.specs.Words.{Settings}
use Rattle.guard_spec.specs.Plain.{rail_cost}
use Rattle.blif_read.specs.View.{model_of}
use Rattle.plain_size.specs.Cones.{Source}
use Rattle.plain_size.specs.Sizes.{source_of}
use Rattle.plain_size.specs.Sums.{partial}
use Rattle.plain_size.proofs.SizeLemmas.{both_ok, layout_fits, rails_passed, rails_whole, too_large, up_to_limit}
use Rattle.plain_size.proofs.size.model_size.Goals as goal

pub returns-then-start-gt-LIMIT : goal.returns-then-start-gt-LIMIT
returns-then-start-gt-LIMIT c = λ file survey one costs.
    let m = model_of c.args.m.now in
    let s = c.args.s.now in
    let l = c.args.l.now in
    let p : Source = source_of file m s l in
    let rails = rail_count s.mode s.bound in
    let size = c.sources_have_one_size.ensures.with file s.library m s.code s.mode s.bound rails l (layout_fits m s.code l c.requires.layout) in
    let begins = c.partial_sizes_add_up.ensures.none file s.library m s.code s.mode s.bound rails l in
    let cost : c.rails_cost-start.result ≡ min (rails * rail_cost s.code l) 1000001
    = c.rails_cost-start.ensures ∙ (ap (λ (k : ℕ). min (k * rail_cost c.s.inside.code l) 1000001) c.rails.ensures.rails ∙ ap (λ (d : Code). min (rails * rail_cost d l) 1000001) (ap (λ (s : Settings). s.code) c.s.view_is)) in
    too_large p rails l size (λ n is.
    let below = c.partial_sizes_stay_below.ensures.words file s.library m s.code s.mode s.bound rails l 0 0 (rails * rail_cost s.code l) n begins is in
    let large = c.if-start-gt-LIMIT.true in
    rails_passed (rails * rail_cost s.code l) c.rails_cost-start.result n cost large below)

pub returns : goal.returns
returns c = λ file survey one costs.
    let m = model_of c.args.m.now in
    let s = c.args.s.now in
    let l = c.args.l.now in
    let p : Source = source_of file m s l in
    let rails = rail_count s.mode s.bound in
    let size = c.sources_have_one_size.ensures.with file s.library m s.code s.mode s.bound rails l (layout_fits m s.code l c.requires.layout) in
    let none = c.partial_sizes_add_up.ensures.none file s.library m s.code s.mode s.bound rails l in
    let start = c.rails_cost-start.result in
    let cost : start ≡ min (rails * rail_cost s.code l) 1000001
    = c.rails_cost-start.ensures ∙ (ap (λ (k : ℕ). min (k * rail_cost c.s.inside.code l) 1000001) c.rails.ensures.rails ∙ ap (λ (d : Code). min (rails * rail_cost d l) 1000001) (ap (λ (s : Settings). s.code) c.s.view_is)) in
    let begins : partial p rails l 0 0 start = subst (λ (k : ℕ). partial p rails l 0 0 k) (rails_whole rails (rail_cost s.code l) start cost c.if-start-gt-LIMIT.false) none in
    both_ok c.whole_sum.result c.whole_sum.ensures.small (c.whole_sum.ensures.sum file rails (c.in_ok-cones.ensures.cones file survey one costs)) (λ r small is. up_to_limit p rails l start r size begins small is)
