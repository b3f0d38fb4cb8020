-- Gates in lists, and what they put into a row.
use Rattle.std.proofs.Common.{◌≡◌, refl, sym, ◌∙◌, ap, ap₂, subst, ℕ, zero, suc, ◌+◌, ◌-◌, ◌<◌, ◌≤◌, List, [], ◌∷◌, ◌++◌, length, map, get_or, set, take, drop, Bool, Option, arith, length-append, length-drop, length-take-le, All}
use Rattle.std.specs.Prelude.{slice_range}
use Rattle.std.specs.List.{AllZip}
use Rattle.std.proofs.lemmas.List.{take_all, take-append-le, drop-append-le, take_more}
use Rattle.std.proofs.Math.Seq.{drop-append_seam}
use Rattle.imp_text.specs.declared.names.NameId.{NameId}
use Rattle.netlist_spec.specs.Netlist.{Cover}
use Rattle.imp_text.specs.declared.cover.Cover.{Cover as ReadCover}
use Rattle.blif_read.specs.View.{cover_of}
use Rattle.fault_sim.specs.declared.gates.GateCell.{GateCell}
use Rattle.fault_sim.specs.Gates.{bit_in, shown_bit, NumberedGate, HasTable, IsGate, IsGateWithin, ins_of, gate_in, gates_in, put_gate, put_gates}
use Rattle.netlist_spec.specs.Covers.{cover_value}

range_kept : (reads more : List NameId) (a w : ℕ) → a + w ≤ length reads → slice_range (reads ++ more) a (a + w) ≡ slice_range reads a (a + w)
range_kept reads more a w h =
    ap (take ((a + w) - a)) (drop-append-le a reads more (omega arith)) ∙ take-append-le ((a + w) - a) (drop a reads) more (omega (arith, length-drop a reads))

pub range_new : (reads ins : List NameId) → slice_range (reads ++ ins) (length reads) (length reads + length ins) ≡ ins
range_new reads ins = ap (take ((length reads + length ins) - length reads)) (drop-append_seam reads ins) ∙ take_all ((length reads + length ins) - length reads) ins (omega arith)

-- more inputs behind those of some gates
gate_kept : (reads more : List NameId) (cell : GateCell) (cover : ReadCover) → IsGate reads cell cover → IsGate (reads ++ more) cell cover
gate_kept reads more cell cover g =
    record { inside = let l = length-append reads more in let i = g.inside in omega arith; few = g.few; table = g.table }

gates_kept : (reads more : List NameId) (cells : List GateCell) (covers : List ReadCover) → AllZip (IsGate reads) cells covers → AllZip (IsGate (reads ++ more)) cells covers
gates_kept reads more [] [] a = tt
gates_kept reads more [] (c ∷ cs) a = absurd a
gates_kept reads more (g ∷ gs) [] a = absurd a
gates_kept reads more (g ∷ gs) (c ∷ cs) a = (gate_kept reads more g c a.0, gates_kept reads more gs cs a.1)

gates_same : (reads more : List NameId) (cells : List GateCell) (covers : List ReadCover) → AllZip (IsGate reads) cells covers → gates_in (reads ++ more) cells covers ≡ gates_in reads cells covers
gates_same reads more [] [] a = refl
gates_same reads more [] (c ∷ cs) a = absurd a
gates_same reads more (g ∷ gs) [] a = absurd a
gates_same reads more (g ∷ gs) (c ∷ cs) a =
    ap₂ (λ (x : NumberedGate) (xs : List NumberedGate). x ∷ xs)
    (ap (λ ids. record (gate_in reads g c) { ins = ids }) (range_kept reads more g.first g.width (a.0.inside))) (gates_same reads more gs cs a.1)

-- one more gate
zip_last : (reads : List NameId) (cells : List GateCell) (covers : List ReadCover) (cell : GateCell) (cover : ReadCover) → AllZip (IsGate reads) cells covers → IsGate reads cell cover → AllZip (IsGate reads) (cells ++ cell ∷ []) (covers ++ cover ∷ [])
zip_last reads [] [] cell cover a g = (g, tt)
zip_last reads [] (c ∷ cs) cell cover a g = absurd a
zip_last reads (x ∷ xs) [] cell cover a g = absurd a
zip_last reads (x ∷ xs) (c ∷ cs) cell cover a g = (a.0, zip_last reads xs cs cell cover a.1 g)

gates_last : (reads : List NameId) (cells : List GateCell) (covers : List ReadCover) (cell : GateCell) (cover : ReadCover) → AllZip (IsGate reads) cells covers → gates_in reads (cells ++ cell ∷ []) (covers ++ cover ∷ []) ≡ gates_in reads cells covers ++ gate_in reads cell cover ∷ []
gates_last reads [] [] cell cover a = refl
gates_last reads [] (c ∷ cs) cell cover a = absurd a
gates_last reads (x ∷ xs) [] cell cover a = absurd a
gates_last reads (x ∷ xs) (c ∷ cs) cell cover a = ap (λ gs. gate_in reads x c ∷ gs) (gates_last reads xs cs cell cover a.1)

pub pushed_zip : (reads ins : List NameId) (cells : List GateCell) (covers : List ReadCover) (cell : GateCell) (cover : ReadCover) → AllZip (IsGate reads) cells covers → IsGate (reads ++ ins) cell cover
    → AllZip (IsGate (reads ++ ins)) (cells ++ cell ∷ []) (covers ++ cover ∷ [])
pushed_zip reads ins cells covers cell cover a g = zip_last (reads ++ ins) cells covers cell cover (gates_kept reads ins cells covers a) g

pub pushed_gates : (reads ins : List NameId) (cells : List GateCell) (covers : List ReadCover) (cell : GateCell) (cover : ReadCover) → AllZip (IsGate reads) cells covers
    → gates_in (reads ++ ins) (cells ++ cell ∷ []) (covers ++ cover ∷ []) ≡ gates_in reads cells covers ++ gate_in (reads ++ ins) cell cover ∷ []
pushed_gates reads ins cells covers cell cover a =
    gates_last (reads ++ ins) cells covers cell cover (gates_kept reads ins cells covers a) ∙ ap (λ gs. gs ++ gate_in (reads ++ ins) cell cover ∷ []) (gates_same reads ins cells covers a)

-- the gate at a place
pub same_long : (reads : List NameId) (cells : List GateCell) (covers : List ReadCover) → AllZip (IsGate reads) cells covers → (length cells ≡ length covers) × (length (gates_in reads cells covers) ≡ length cells)
same_long reads [] [] a = (refl, refl)
same_long reads [] (c ∷ cs) a = absurd a
same_long reads (g ∷ gs) [] a = absurd a
same_long reads (g ∷ gs) (c ∷ cs) a = let r = same_long reads gs cs a.1 in (ap suc r.0, ap suc r.1)

pub is_gate_at : (reads : List NameId) (cells : List GateCell) (covers : List ReadCover) (i : ℕ) (g : GateCell) (c : ReadCover) → AllZip (IsGate reads) cells covers → i < length cells → IsGate reads (get_or cells i g) (get_or covers i c)
is_gate_at reads [] covers i g c a h = absurd (omega arith)
is_gate_at reads (x ∷ xs) [] i g c a h = absurd a
is_gate_at reads (x ∷ xs) (y ∷ ys) zero g c a h = a.0
is_gate_at reads (x ∷ xs) (y ∷ ys) (suc i) g c a h = is_gate_at reads xs ys i g c a.1 (omega arith)

pub gate_at : (reads : List NameId) (cells : List GateCell) (covers : List ReadCover) (i : ℕ) (g : GateCell) (c : ReadCover) (d : NumberedGate) → AllZip (IsGate reads) cells covers → i < length cells
    → get_or (gates_in reads cells covers) i d ≡ gate_in reads (get_or cells i g) (get_or covers i c)
gate_at reads [] covers i g c d a h = absurd (omega arith)
gate_at reads (x ∷ xs) [] i g c d a h = absurd a
gate_at reads (x ∷ xs) (y ∷ ys) zero g c d a h = refl
gate_at reads (x ∷ xs) (y ∷ ys) (suc i) g c d a h = gate_at reads xs ys i g c d a.1 (omega arith)

put_last : (forced : List (Option Bool)) (row : List Bool) (gs : List NumberedGate) (g : NumberedGate) → put_gates forced row (gs ++ g ∷ []) ≡ put_gate forced (put_gates forced row gs) g
put_last forced row [] g = refl
put_last forced row (x ∷ xs) g = put_last forced (put_gate forced row x) xs g

-- one more gate puts its bit into the row
pub put_more : (forced : List (Option Bool)) (row now : List Bool) (gs : List NumberedGate) (i : ℕ) (d : NumberedGate) → i < length gs → now ≡ put_gates forced row (take i gs) → put_gate forced now (get_or gs i d) ≡ put_gates forced row (take (i + 1) gs)
put_more forced row now gs i d h e =
    ap (λ r. put_gate forced r (get_or gs i d)) e ∙ sym (ap (put_gates forced row) (take_more gs i d h) ∙ put_last forced row (take i gs) (get_or gs i d))

-- A gate that is pushed: its inputs behind those of the others, its cover and its cell.
module _ (reads ins : List NameId) (cells : List GateCell) (covers : List ReadCover) (cell : GateCell) (copy : ReadCover) (cover : Cover)
    (first : cell.first ≡ length reads) (width : cell.width ≡ length ins) (few : length ins ≤ 16) (table : HasTable cell.table (length ins) cover) (same : cover_of copy ≡ cover)
    (a : AllZip (IsGate reads) cells covers) where
  is_gate : IsGate (reads ++ ins) cell copy
  is_gate =
      record {
        inside = let l = length-append reads ins in omega arith;
        few = omega arith;
        table = subst (λ (n : ℕ). HasTable cell.table n (cover_of copy)) (sym width) (subst (HasTable cell.table (length ins)) (sym same) table);
      }

  own_ins : slice_range (reads ++ ins) cell.first (cell.first + cell.width) ≡ ins
  own_ins = ap₂ (λ (f w : ℕ). slice_range (reads ++ ins) f (f + w)) first width ∙ range_new reads ins

  pub gates_after : (reads' : List NameId) (cells' : List GateCell) (covers' : List ReadCover) → reads' ≡ reads ++ ins → cells' ≡ cells ++ cell ∷ [] → covers' ≡ covers ++ copy ∷ []
      → gates_in reads' cells' covers' ≡ gates_in reads cells covers ++ record { ins = ins; out = cell.out; cover = cover } ∷ []
  gates_after reads' cells' covers' er ec ev =
      ap₂ (λ (xs : List GateCell) (ys : List ReadCover). gates_in reads' xs ys) ec ev
      ∙ (ap (λ (rs : List NameId). gates_in rs (cells ++ cell ∷ []) (covers ++ copy ∷ [])) er
      ∙ (pushed_gates reads ins cells covers cell copy a
      ∙ ap (λ (g : NumberedGate). gates_in reads cells covers ++ g ∷ []) (ap₂ (λ (ids : List NameId) (c : Cover). record { ins = ids; out = cell.out; cover = c }) own_ins same)))

  pub zip_after : (reads' : List NameId) (cells' : List GateCell) (covers' : List ReadCover) → reads' ≡ reads ++ ins → cells' ≡ cells ++ cell ∷ [] → covers' ≡ covers ++ copy ∷ []
      → AllZip (IsGate reads') cells' covers'
  zip_after reads' cells' covers' er ec ev =
      subst (λ (xs : List GateCell). AllZip (IsGate reads') xs covers') (sym ec)
      (subst (λ (ys : List ReadCover). AllZip (IsGate reads') (cells ++ cell ∷ []) ys) (sym ev)
      (subst (λ (rs : List NameId). AllZip (IsGate rs) (cells ++ cell ∷ []) (covers ++ copy ∷ [])) (sym er) (pushed_zip reads ins cells covers cell copy a is_gate)))

-- The bit that a cell puts into the row.
pub put_one : (reads : List NameId) (cells cells' : List GateCell) (covers : List ReadCover) (i : ℕ) (d : GateCell) (c : ReadCover) (g : NumberedGate) (w : ℕ) (forced : List (Option Bool)) (row : List Bool) (own s : Bool)
    → AllZip (IsGate reads) cells covers → cells' ≡ cells → i < length cells' → c ≡ get_or covers i c → w ≡ (get_or cells' i d).width
    → own ≡ cover_value (cover_of c) (map (bit_in row) (slice_range reads (get_or cells' i d).first ((get_or cells' i d).first + w))) → s ≡ shown_bit forced (get_or cells' i d).out own
    → set row (get_or cells' i d).out.0 s ≡ put_gate forced row (get_or (gates_in reads cells covers) i g)
put_one reads cells cells' covers i d c g w forced row own s a same h ec ew eo es =
    let cell = get_or cells' i d in
    let gate : get_or (gates_in reads cells covers) i g ≡ gate_in reads cell c =
    gate_at reads cells covers i d c g a (subst (λ (xs : List GateCell). i < length xs) same h) ∙ ap₂ (λ (x : GateCell) (y : ReadCover). gate_in reads x y) (ap (λ (xs : List GateCell). get_or xs i d) (sym same)) (sym ec) in
    let value : own ≡ cover_value (cover_of c) (map (bit_in row) (slice_range reads cell.first (cell.first + cell.width))) =
    eo ∙ ap (λ (n : ℕ). cover_value (cover_of c) (map (bit_in row) (slice_range reads cell.first (cell.first + n)))) ew in
    ap (set row cell.out.0) (es ∙ ap (shown_bit forced cell.out) value) ∙ sym (ap (put_gate forced row) gate)

-- What holds of the cell at a place.
cell_range : (reads : List NameId) (cells : List GateCell) (covers : List ReadCover) (i : ℕ) (d : GateCell) → AllZip (IsGate reads) cells covers → i < length cells → ((get_or cells i d).first + (get_or cells i d).width ≤ length reads) × ((get_or cells i d).width ≤ 16)
cell_range reads [] covers i d a h = absurd (omega arith)
cell_range reads (x ∷ xs) [] i d a h = absurd a
cell_range reads (x ∷ xs) (y ∷ ys) zero d a h = (a.0.inside, a.0.few)
cell_range reads (x ∷ xs) (y ∷ ys) (suc i) d a h = cell_range reads xs ys i d a.1 (omega arith)

range_long : (reads : List NameId) (f w : ℕ) → f + w ≤ length reads → length (slice_range reads f (f + w)) ≡ w
range_long reads f w h = let a = length-take-le ((f + w) - f) (drop f reads) (let b = length-drop f reads in omega arith) in omega arith

ins_within : (n : ℕ) (reads : List NameId) (cells : List GateCell) (covers : List ReadCover) (i : ℕ) (d : GateCell) → AllZip (IsGate reads) cells covers → i < length cells → All (IsGateWithin n) (gates_in reads cells covers)
    → All (λ (id : NameId). id.0 < n) (ins_of reads (get_or cells i d)) × ((get_or cells i d).out.0 < n)
ins_within n reads [] covers i d a h w = absurd (omega arith)
ins_within n reads (x ∷ xs) [] i d a h w = absurd a
ins_within n reads (x ∷ xs) (y ∷ ys) zero d a h w = let g = w 0 (gate_in reads x y) (omega arith) in (g.ins, g.out)
ins_within n reads (x ∷ xs) (y ∷ ys) (suc i) d a h w = ins_within n reads xs ys i d a.1 (omega arith) (λ k e l. w (suc k) e (omega arith))

module _ (reads reads' : List NameId) (cells cells' : List GateCell) (covers : List ReadCover) (i : ℕ) (d : GateCell) (w : ℕ) (a : AllZip (IsGate reads) cells covers) (from : reads' ≡ reads) (same : cells' ≡ cells) (h : i < length cells')
    (width : w ≡ (get_or cells' i d).width) where
  abbrev cell : GateCell
  cell = get_or cells' i d

  within : i < length cells
  within = subst (λ (xs : List GateCell). i < length xs) same h

  ranges : (cell.first + cell.width ≤ length reads) × (cell.width ≤ 16)
  ranges = subst (λ (xs : List GateCell). ((get_or xs i d).first + (get_or xs i d).width ≤ length reads) × ((get_or xs i d).width ≤ 16)) (sym same) (cell_range reads cells covers i d a within)

  pub cell_inside : cell.first + w ≤ length reads
  cell_inside = let r = ranges.0 in omega arith

  abbrev part : List NameId
  part = slice_range reads' cell.first (cell.first + w)

  part_is : part ≡ ins_of reads cell
  part_is = ap₂ (λ (rs : List NameId) (n : ℕ). slice_range rs cell.first (cell.first + n)) from width

  part_long : length part ≡ cell.width
  part_long = ap length part_is ∙ range_long reads cell.first cell.width ranges.0

  pub cell_few : length part ≤ 16
  cell_few = let l = part_long in let r = ranges.1 in omega arith

  pub cell_table : (c : ReadCover) → c ≡ get_or covers i c → HasTable cell.table (length part) (cover_of c)
  cell_table c ec =
      subst (λ (n : ℕ). HasTable cell.table n (cover_of c)) (sym part_long)
      (subst (λ (y : ReadCover). HasTable cell.table cell.width (cover_of y)) (sym ec)
      (subst (λ (xs : List GateCell). HasTable (get_or xs i d).table (get_or xs i d).width (cover_of (get_or covers i c))) (sym same) (is_gate_at reads cells covers i d c a within).table))

  pub cell_ins : (n m : ℕ) → m ≡ n → All (IsGateWithin n) (gates_in reads cells covers) → All (λ (id : NameId). id.0 < m) part
  cell_ins n m e g =
      subst (λ (k : ℕ). All (λ (id : NameId). id.0 < k) part) (sym e)
      (subst (All (λ (id : NameId). id.0 < n)) (sym part_is)
      (subst (λ (xs : List GateCell). All (λ (id : NameId). id.0 < n) (ins_of reads (get_or xs i d))) (sym same) (ins_within n reads cells covers i d a within g).0))

  pub cell_out : (n : ℕ) → All (IsGateWithin n) (gates_in reads cells covers) → cell.out.0 < n
  cell_out n g = subst (λ (xs : List GateCell). (get_or xs i d).out.0 < n) (sym same) (ins_within n reads cells covers i d a within g).1
