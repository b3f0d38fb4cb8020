use Rattle.std.proofs.Common.{◌≡◌, refl, sym, ◌∙◌, ap, subst, arith, ◌<◌, ◌≤◌, ◌^◌, ℕ, List, [], false, map, length, get_or}
use Rattle.std.proofs.lemmas.List.{length-map}
use Rattle.std.proofs.lemmas.Simd.{map-map}
use Rattle.std.specs.List.{AllByRecursion}
use Rattle.gate_net.specs.declared.machine.LatchRow.{LatchRow}
use Rattle.gate_net.specs.Machine.{latch_row}
use Rattle.netlist_spec.specs.Covers.{number_of}
use Rattle.netlist_spec.specs.Gates.{Machine}
use Rattle.netlist_spec.specs.SourceRun.{Bits}
use Rattle.block_code.proofs.Words.{number_below}
use Rattle.guard_spec.specs.Codes.{data_places}
use Rattle.guard_spec.specs.Words.{Layout, bits_at}
use Rattle.encode_state.proofs.InitLemmas.{codeword_is, word_facts}
use Rattle.encode_state.proofs.inits.initial.Goals as goal

pub returns-clause-codeword : goal.returns-clause-codeword
returns-clause-codeword c =
    let code = c.args.c.now in
    let m = c.args.m.now in
    let state_is = ap (λ (l : Layout). l.state) (sym c.l.view_is) in
    let vec = c.index-word.result.now in
    let f = word_facts (data_places code) (length m.latches) c.args.l.now.state c.l.inside.state.items c.args.w vec vec.items c.requires.layout c.requires.word state_is c.index-word.ensures refl in
    let word = c.deref-2.result.now in
    let latches = c.deref.result.now in
    let b : Bits = map (λ (r : LatchRow). r.init) latches in
    let same : map (λ r. r.init) m.latches ≡ b
    = ap (λ (n : Machine). map (λ r. r.init) n.latches) (sym c.m.view_is) ∙ (map-map (λ r. r.init) latch_row c.m.inside.latches.items ∙ ap (λ (ls : List LatchRow). map (λ (r : LatchRow). r.init) ls) (sym c.deref.ensures.value)) in
    codeword_is code word (get_or c.args.l.now.state c.args.w []) (map (λ r. r.init) m.latches) b c.len-places.result c.data_inits.result.0 c.encode.result.0
    (f.0 ∙ sym c.deref-2.ensures.value) (c.len-places.ensures ∙ sym c.deref-2.ensures.len) c.data_inits.ensures same c.encode.ensures.codeword

pub prove-unreachable-requires : goal.prove-unreachable-requires
prove-unreachable-requires c =
    let code = c.args.c.now in
    let vec = c.index-word.result.now in
    let f = word_facts (data_places code) (length c.args.m.now.latches) c.args.l.now.state c.l.inside.state.items c.args.w vec vec.items c.requires.layout c.requires.word (ap (λ (l : Layout). l.state) (sym c.l.view_is)) c.index-word.ensures refl in
    let most = f.2 in
    let size = vec.ok.0 in
    let n : c.len-places.result ≡ vec.len = c.len-places.ensures in
    let rows = c.k.ensures.rows in
    let more = c.if-prove.true in
    omega arith

pub data_inits-requires-clause-within : goal.data_inits-requires-clause-within
data_inits-requires-clause-within c =
    let code = c.args.c.now in
    let m = c.args.m.now in
    let vec = c.index-word.result.now in
    let f = word_facts (data_places code) (length m.latches) c.args.l.now.state c.l.inside.state.items c.args.w vec vec.items c.requires.layout c.requires.word (ap (λ (l : Layout). l.state) (sym c.l.view_is)) c.index-word.ensures refl in
    let size : length m.latches ≡ length c.deref.result.now = ap (λ (n : Machine). length n.latches) (sym c.m.view_is) ∙ (length-map c.m.inside.latches.items latch_row ∙ ap length (sym c.deref.ensures.value)) in
    subst (λ (n : ℕ). AllByRecursion (λ i. i < n) c.deref-2.result.now) size (subst (λ (w : List ℕ). AllByRecursion (λ i. i < length m.latches) w) (sym c.deref-2.ensures.value) f.3)

pub encode-requires-clause-some_place : goal.encode-requires-clause-some_place
encode-requires-clause-some_place c =
    let code = c.args.c.now in
    let vec = c.index-word.result.now in
    let f = word_facts (data_places code) (length c.args.m.now.latches) c.args.l.now.state c.l.inside.state.items c.args.w vec vec.items c.requires.layout c.requires.word (ap (λ (l : Layout). l.state) (sym c.l.view_is)) c.index-word.ensures refl in
    let some = f.1 in
    let n : c.len-places.result ≡ length vec.items = c.len-places.ensures ∙ (sym c.deref-2.ensures.len ∙ ap length c.deref-2.ensures.value) in
    omega arith

pub encode-requires-clause-within : goal.encode-requires-clause-within
encode-requires-clause-within c =
    let vec = c.index-word.result.now in
    let word = c.deref-2.result.now in
    let b : Bits = map (λ (r : LatchRow). r.init) c.deref.result.now in
    let n : length (bits_at word b) ≡ c.len-places.result = length-map word (λ i. get_or b i false) ∙ (c.deref-2.ensures.len ∙ sym c.len-places.ensures) in
    rw c.data_inits.ensures (subst (λ (k : ℕ). number_of (bits_at word b) < 2 ^ k) n (number_below (bits_at word b)))
