use Rattle.std.proofs.Common.{◌≡◌, ◌<◌, ◌≤◌, sym, ◌∙◌, ap, subst, [], ◌∷◌, ◌++◌, List, length, map, take, drop, get_or, suc}
use Rattle.std.proofs.lemmas.List.{take_all, map-append}
use Rattle.netlist_spec.specs.Netlist.{Statement}
use Rattle.netlist_spec.specs.Ordered.{driven_by}
use Rattle.netlist_spec.specs.CellBits.{cells_of}
use Rattle.gate_net.specs.Bit.{bit_of}
use Rattle.blif_read.specs.declared.file.Located.{Located}
use Rattle.blif_read.specs.View.{model_of, statement_of}
use Rattle.audit_laws.specs.OnePass.{IsNoSubckt, finding_of}
use Rattle.independence_audit.specs.Audited.{cell_name}
use Rattle.independence_audit.specs.Known.{bits_kept}
use Rattle.independence_audit.proofs.TellLemmas.{AreFine, free_cells, cells_in, cells_are, cell_at, no_subckt_at, cells_more, cells_split, one_more_fine, first_found, found_is}
use Rattle.independence_audit.proofs.tell.tell_cells.Goals as goal

pub tell_cell-requires-clause-is_cell : goal.tell_cell-requires-clause-is_cell
tell_cell-requires-clause-is_cell c =
    let m = c.args.m.now in
    let ss = m.statements.items in
    let i = c.loop-i.i in
    let item = c.s-item.result in
    let at : item ≡ get_or ss i item = c.s-item.is ∙ ap (λ (xs : List Located). get_or xs i item) c.deref-s-items.ensures.value in
    let within : i < length ss = subst (λ (xs : List Located). i < length xs) c.deref-s-items.ensures.value c.loop-i-test.true in
    subst (λ (s : Located). IsNoSubckt (statement_of m.names s.what)) (sym at) (no_subckt_at m.names ss (free_cells m c.requires.cells) i item within)

pub returns-in-Finds : goal.returns-in-Finds
returns-in-Finds c = λ known order.
    let m = c.args.m.now in
    let M = model_of m in
    let ss = m.statements.items in
    let i = c.loop-i.i in
    let item = c.s-item.result in
    let s = statement_of m.names item.what in
    let at : item ≡ get_or ss i item = c.s-item.is ∙ ap (λ (xs : List Located). get_or xs i item) c.deref-s-items.ensures.value in
    let within : i < length ss = subst (λ (xs : List Located). i < length xs) c.deref-s-items.ensures.value c.loop-i-test.true in
    let free = free_cells m c.requires.cells in
    let none = subst (λ (s : Located). IsNoSubckt (statement_of m.names s.what)) (sym at) (no_subckt_at m.names ss free i item within) in
    let named = subst (λ (s : Located). driven_by (statement_of m.names s.what) ≡ cell_name M (record { 0 = i }) ∷ []) (sym at) (cell_at m.names ss free i item within) in
    let before = cells_in m.names (take i ss) in
    let after = cells_in m.names (drop (suc i) ss) in
    let split : cells_of M ≡ before ++ s ∷ after =
    cells_are m.names ss ∙ (cells_split m.names ss i item within ∙ ap (λ (x : Located). before ++ statement_of m.names x.what ∷ after) (sym at)) in
    found_is (record { models = M ∷ [] }) M c.in-Finds.audit (finding_of M s (bits_kept M s)) (c.in-Finds.ensures.bit known) (c.in-Finds.ensures.finding known named)
    (λ f e. first_found M order s none before after split (c.loop-i.invariant known order).fine f e)

pub loop-i-preserved : goal.loop-i-preserved
loop-i-preserved c = λ known order.
    let m = c.args.m.now in
    let M = model_of m in
    let ss = m.statements.items in
    let i = c.loop-i.i in
    let item = c.s-item.result in
    let s = statement_of m.names item.what in
    let at : item ≡ get_or ss i item = c.s-item.is ∙ ap (λ (xs : List Located). get_or xs i item) c.deref-s-items.ensures.value in
    let within : i < length ss = subst (λ (xs : List Located). i < length xs) c.deref-s-items.ensures.value c.loop-i-test.true in
    let free = free_cells m c.requires.cells in
    let none = subst (λ (s : Located). IsNoSubckt (statement_of m.names s.what)) (sym at) (no_subckt_at m.names ss free i item within) in
    let named = subst (λ (s : Located). driven_by (statement_of m.names s.what) ≡ cell_name M (record { 0 = i }) ∷ []) (sym at) (cell_at m.names ss free i item within) in
    let cells = cells_in m.names (take i ss) in
    let bits = map bit_of c.loop-i.bits.items in
    let bit = bit_of c.in-Serves.bit in
    let more = cells_more m.names ss i item within ∙ ap (λ (x : Located). cells ++ statement_of m.names x.what ∷ []) (sym at) in
    let pushed = ap (map bit_of) c.in_ok-push-in-Serves.ensures.items ∙ map-append bit_of c.loop-i.bits.items (c.in-Serves.bit ∷ []) in
    let fine : AreFine M (cells ++ s ∷ []) (bits ++ bit ∷ []) =
    one_more_fine M order s none cells bits bit (c.loop-i.invariant known order) (sym (c.in-Serves.ensures.finding known named)) (c.in-Serves.ensures.bit known) in
    subst (λ cs. AreFine M cs (map bit_of c.push.new.self.items)) (sym more) (subst (AreFine M (cells ++ s ∷ [])) (sym pushed) fine)

pub returns : goal.returns
returns c = λ known order.
    let m = c.args.m.now in
    let M = model_of m in
    let ss = m.statements.items in
    let i = c.loop-i.i in
    let ends : length ss ≤ i = subst (λ (xs : List Located). length xs ≤ i) c.deref-s-items.ensures.value c.loop-i-test.false in
    let whole : AreFine M (cells_of M) (map bit_of c.loop-i.bits.items) =
    subst (λ cs. AreFine M cs (map bit_of c.loop-i.bits.items)) (ap (cells_in m.names) (take_all i ss ends) ∙ sym (cells_are m.names ss)) (c.loop-i.invariant known order) in
    ((whole.fine, tt), whole.one_each)
