-- The bits of nets by one pass from the last `.names` to the first.
use Rattle.std.specs.Prelude.{◌≡◌, ℕ, ◌⊎◌, ◌↔◌, Bool, ◌&&◌, List, [], ◌∷◌, ◌++◌, map, not, if◌then◌else◌, Option, IsTrue, ⊤}
use Rattle.std.specs.List.{AllByRecursion}
use Rattle.netlist_spec.specs.Netlist.{Name, same_name, stands_in, Model, File}
use Rattle.netlist_spec.specs.Models.{Gate, gates_of, output_nets}
use Rattle.netlist_spec.specs.FileRules.{NeverFall}
use Rattle.netlist_spec.specs.Ordered.{IsOrdered}
use Rattle.netlist_spec.specs.CellBits.{Bit, IsGateBit}
use Rattle.audit_laws.specs.FirstBits.{FirstBits, AreFirstBits, AreInBitOrder, merged, IsOwnBit, own_bits}

-- A `.names` reads a net that is no output: so the net has the bits of the `.names`.
abbrev pub passes_on : Model → Gate → Name → Bool
passes_on m g n = not (stands_in n (output_nets m)) && stands_in n g.ins

-- The bits of a net along some `.names` in their order.
abbrev pub IsBitAlong : Model → List Gate → Name → Bit → Type 0
IsBitAlong m [] n bit = IsOwnBit m n bit
IsBitAlong m (g ∷ later) n bit = IsBitAlong m later n bit ⊎ (IsTrue (passes_on m g n) × IsBitAlong m later g.out bit)

-- Each `.names` reads neither its own output nor that of a later one.
abbrev pub AreInOrder : List Gate → Type 0
AreInOrder [] = ⊤
AreInOrder (g ∷ later) = AllByRecursion (λ n. IsTrue (not (stands_in n (map (λ h. h.out) (g ∷ later))))) g.ins × AreInOrder later

-- In an ordered file whose statements stand by their lines, the `.names` are in order.
abbrev pub OrderedFilesAreInOrder : File → ℕ → Option ℕ → Type 0
OrderedFilesAreInOrder file low high =
    (ordered : IsOrdered file) → NeverFall low high (map (λ s. s.line) ordered.model.statements) → AreInOrder (gates_of ordered.model)

-- The bits of a net along all `.names` are those of a cell with this output.
abbrev pub AllBitsAreAlong : Model → Name → Bit → Type 0
AllBitsAreAlong m n bit = AreInOrder (gates_of m) → IsBitAlong m (gates_of m) n bit ↔ IsGateBit m n bit

-- The bits of a `.names` are known when the later ones are done.
abbrev pub BitsAreAlongLater : Model → List Gate → Gate → List Gate → Bit → Type 0
BitsAreAlongLater m before g later bit =
    AreInOrder (gates_of m) → gates_of m ≡ before ++ g ∷ later → IsBitAlong m later g.out bit ↔ IsGateBit m g.out bit

-- What a pass keeps for each net when it has done some `.names`, the last one first. One more changes the nets that it
-- reads, and its own output is none of them.
abbrev pub bits_along : Model → List Gate → Name → FirstBits
bits_along m [] n = own_bits m n
bits_along m (g ∷ later) n = if passes_on m g n then merged (bits_along m later n) (bits_along m later g.out) else bits_along m later n

abbrev pub BitsAlongAreKept : Model → List Gate → Name → Type 0
BitsAlongAreKept m gates n = AreFirstBits (IsBitAlong m gates n) (bits_along m gates n)

-- A net that is read twice is merged twice, which changes nothing.
abbrev pub MergingTwiceIsOnce : (a b : FirstBits) → Type 0
MergingTwiceIsOnce a b = AreInBitOrder a → AreInBitOrder b → merged (merged a b) b ≡ merged a b

-- what is kept of a net while the reads of a `.names` are done one after another
abbrev pub bits_partly : Model → List Gate → Gate → List Name → Name → FirstBits
bits_partly m later g done n =
    if not (stands_in n (output_nets m)) && stands_in n done then merged (bits_along m later n) (bits_along m later g.out) else bits_along m later n

-- Before the first read nothing is changed. One more read merges what is kept of the output into what is kept of the net
-- that is read, unless that is an output. With all reads the `.names` is done.
pub record ReadsAreDoneInTurn (m : Model) (later : List Gate) (g : Gate) (n : Name) : Type 0 where
  pub none : bits_partly m later g [] n ≡ bits_along m later n
  pub one_more : (done : List Name) (k : Name)
      → bits_partly m later g (done ++ k ∷ []) n
      ≡ (if same_name k n && not (stands_in k (output_nets m)) then merged (bits_partly m later g done n) (bits_along m later g.out) else bits_partly m later g done n)
  pub all : bits_partly m later g g.ins n ≡ bits_along m (g ∷ later) n
