-- Latches pushed for places, and for words.
use Rattle.std.proofs.Common.{◌≡◌, refl, sym, ◌∙◌, ap, ap₂, ℕ, ◌+◌, ◌<◌, ◌≤◌, Bool, List, [], ◌∷◌, ◌++◌, length, map, get_or, take, drop, arith, append_assoc, append-nil, length-append, ◌^◌}
use Rattle.std.specs.Prelude.{slice_range}
use Rattle.std.proofs.lemmas.List.{length-map, map_push, drop_more, drop_all, take_all}
use Rattle.std.proofs.lemmas.List.Sums.{sum_by-cons}
use Rattle.netlist_spec.specs.Covers.{has_bit}
use Rattle.netlist_spec.specs.Gates.{Machine, IsMachine}
use Rattle.netlist_spec.specs.SourceRun.{Bits}
use Rattle.block_code.proofs.Words.{bits_push, length_bits}
use Rattle.gate_net.specs.declared.gate.NetId.{NetId}
use Rattle.gate_net.specs.declared.machine.LatchRow.{LatchRow}
use Rattle.gate_net.specs.Gate.{net_number}
use Rattle.gate_net.specs.GateNet.{IsNet}
use Rattle.gate_net.specs.Machine.{latch_row}
use Rattle.guard_spec.specs.Codes.{Code, bits_of, encoded}
use Rattle.guard_spec.specs.Words.{IsPartition, Words, bits_at, codewords}
use Rattle.guard_laws.specs.Places.{latches_of_words}
use Rattle.guard_names.proofs.Counts.{few_words}
use Rattle.guard_net.proofs.Lists.{part_more, take_part}

abbrev stores : List LatchRow → List NetId
stores rows = map (λ r. r.d) rows

abbrev starts : List LatchRow → Bits
starts rows = map (λ r. r.init) rows

pub record ArePushed (cells : List NetId) (bits : ℕ) (first : List LatchRow) (i : ℕ) (rows : List LatchRow) : Type 0 where
  pub are_stores : stores rows ≡ stores first ++ slice_range cells (length first) (length first + i)
  pub are_starts : starts rows ≡ starts first ++ bits_of i bits
  pub size : length rows ≡ length first + i

pub row_pushed : (cells : List NetId) (bits : ℕ) (first rows more : List LatchRow) (i n : ℕ) (d e : NetId) (init : Bool) → length first + i < length cells → ArePushed cells bits first i rows → n ≡ length rows → d ≡ get_or cells n e → init ≡ has_bit bits i
    → more ≡ rows ++ record { d = d; init = init } ∷ [] → ArePushed cells bits first (i + 1) more
row_pushed cells bits first rows more i n d e init h so_far count at bit is =
    let row : LatchRow = record { d = d; init = init } in
    let here : d ≡ get_or cells (length first + i) e = at ∙ ap (λ (n : ℕ). get_or cells n e) (count ∙ so_far.size) in
    record {
      are_stores = ap stores is ∙ (map_push (λ (r : LatchRow). r.d) rows row ∙ (ap₂ (λ (xs : List NetId) (x : NetId). xs ++ x ∷ []) so_far.are_stores here
          ∙ (append_assoc (stores first) (slice_range cells (length first) (length first + i)) (get_or cells (length first + i) e ∷ [])
          ∙ ap (λ (xs : List NetId). stores first ++ xs) (sym (part_more cells (length first) i e h)))));
      are_starts = ap starts is ∙ (map_push (λ (r : LatchRow). r.init) rows row ∙ (ap₂ (λ (xs : Bits) (x : Bool). xs ++ x ∷ []) so_far.are_starts bit
          ∙ (append_assoc (starts first) (bits_of i bits) (has_bit bits i ∷ []) ∙ ap (λ (xs : Bits). starts first ++ xs) (sym (bits_push i bits)))));
      size = ap length is ∙ (length-append rows (row ∷ []) ∙ (let f = so_far.size in let g : length rows + 1 ≡ length first + (i + 1) = omega arith in g));
    }

-- ---- words

pub record AreWordsPushed (code : Code) (state : Words) (starts_of : Bits) (cells : List NetId) (w : ℕ) (rows : List LatchRow) : Type 0 where
  pub are_stores : stores rows ≡ take (length rows) cells
  pub are_starts : codewords code state starts_of ≡ starts rows ++ codewords code (drop w state) starts_of
  pub size : length rows + latches_of_words code (drop w state) ≡ length cells

-- the places of the next word have room
pub next_has_room : (code : Code) (state : Words) (bits : Bits) (cells : List NetId) (w : ℕ) (rows : List LatchRow) → w < length state → AreWordsPushed code state bits cells w rows
    → length rows + (length (get_or state w []) + code.columns) ≤ length cells
next_has_room code state bits cells w rows h so_far =
    let e : latches_of_words code (drop w state) ≡ (length (get_or state w []) + code.columns) + latches_of_words code (drop (w + 1) state)
    = ap (latches_of_words code) (drop_more state w [] h) ∙ sum_by-cons (λ (v : List ℕ). length v + code.columns) (get_or state w []) (drop (w + 1) state) in
    let f = so_far.size in
    omega arith

pub word_pushed : (code : Code) (state : Words) (bits : Bits) (cells : List NetId) (w : ℕ) (rows more : List LatchRow) (places number : ℕ) → w < length state → AreWordsPushed code state bits cells w rows
    → places ≡ length (get_or state w []) + code.columns
    → bits_of (length (get_or state w []) + code.columns) number ≡ encoded code (bits_at (get_or state w []) bits)
    → stores more ≡ stores rows ++ slice_range cells (length rows) (length rows + places)
    → starts more ≡ starts rows ++ bits_of places number
    → AreWordsPushed code state bits cells (w + 1) more
word_pushed code state bits cells w rows more places number h so_far wide codeword d_is init_is =
    let word : List ℕ = get_or state w [] in
    let size : length more ≡ length rows + places
    = sym (length-map more (λ (r : LatchRow). r.init)) ∙ (ap length init_is ∙ (length-append (starts rows) (bits_of places number)
    ∙ ap₂ (λ (a b : ℕ). a + b) (length-map rows (λ (r : LatchRow). r.init)) (length_bits places number))) in
    let rest : latches_of_words code (drop w state) ≡ (length word + code.columns) + latches_of_words code (drop (w + 1) state)
    = ap (latches_of_words code) (drop_more state w [] h) ∙ sum_by-cons (λ (v : List ℕ). length v + code.columns) word (drop (w + 1) state) in
    let spelled : bits_of places number ≡ encoded code (bits_at word bits) = ap (λ (n : ℕ). bits_of n number) wide ∙ codeword in
    record {
      are_stores = d_is ∙ (ap (λ (xs : List NetId). xs ++ slice_range cells (length rows) (length rows + places)) so_far.are_stores
          ∙ (take_part cells (length rows) places ∙ ap (λ (n : ℕ). take n cells) (sym size)));
      are_starts = so_far.are_starts ∙ (ap (λ (ws : Words). starts rows ++ codewords code ws bits) (drop_more state w [] h)
          ∙ (sym (append_assoc (starts rows) (encoded code (bits_at word bits)) (codewords code (drop (w + 1) state) bits))
          ∙ ap (λ (xs : Bits). xs ++ codewords code (drop (w + 1) state) bits) (sym (init_is ∙ ap (λ (xs : Bits). starts rows ++ xs) spelled))));
      size = (let e = so_far.size in omega arith);
    }

pub rows_store : (rs : List LatchRow) → map (λ r. r.d) (map latch_row rs) ≡ map net_number (map (λ (r : LatchRow). r.d) rs)
rows_store [] = refl
rows_store (r ∷ rs) = ap (λ (ns : List ℕ). net_number r.d ∷ ns) (rows_store rs)

-- all of them
pub stores_are : (code : Code) (state : Words) (bits : Bits) (cells : List NetId) (w : ℕ) (rows : List LatchRow) → length state ≤ w → AreWordsPushed code state bits cells w rows → map (λ r. r.d) (map latch_row rows) ≡ map net_number cells
stores_are code state bits cells w rows past so_far =
    let none = ap (latches_of_words code) (drop_all w state past) in
    let long : length rows ≡ length cells = let e = so_far.size in omega arith in
    rows_store rows ∙ ap (map net_number) (so_far.are_stores ∙ take_all (length rows) cells (omega arith))

pub starts_are : (code : Code) (state : Words) (bits : Bits) (cells : List NetId) (w : ℕ) (rows : List LatchRow) → length state ≤ w → AreWordsPushed code state bits cells w rows → map (λ r. r.init) (map latch_row rows) ≡ codewords code state bits
starts_are code state bits cells w rows past so_far =
    both rows ∙ sym (so_far.are_starts ∙ (ap (λ (ws : Words). starts rows ++ codewords code ws bits) (drop_all w state past) ∙ append-nil (starts rows)))
  where
    both : (rs : List LatchRow) → map (λ r. r.init) (map latch_row rs) ≡ starts rs
    both [] = refl
    both (r ∷ rs) = ap (λ (bs : Bits). r.init ∷ bs) (both rs)

-- ---- few words

pub words_fit : (m : Machine) (k : ℕ) (words : Words) → IsMachine m → IsNet m.net → IsPartition (length m.latches) k words → length words ≤ 2 ^ 23
words_fit m k words is net p =
    let a = few_words (length m.latches) k words p in
    let b = is.leaves in
    let c = net.small in
    omega arith
