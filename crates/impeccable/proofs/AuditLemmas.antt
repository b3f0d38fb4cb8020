-- The steps of `audit`, and the pieces of its text.
use Rattle.std.proofs.Common.{◌≡◌, ℕ, suc, ◌+◌, ◌<◌, ◌≤◌, List, [], ◌∷◌, ◌++◌, length, map, take, get_or, Some, None, All, IfSome, refl, sym, subst, ap, ◌∙◌, append_assoc, append-nil, arith}
use Rattle.std.specs.Prelude.{Option, IsSomeAnd, ⊤}
use Rattle.std.specs.List.{AllByRecursion, flat_map, zip}
use Rattle.std.proofs.lemmas.List.{get_or-map, get_or_past, length-map, length-take-le, map-append, take_more}
use Rattle.std.proofs.lemmas.Slice.Zip.{AllZip-long}
use Rattle.imp_io.specs.Files.{FilesSeen, bytes_at}
use Rattle.netlist_spec.specs.Netlist.{Name, Model, File}
use Rattle.netlist_spec.specs.Models.{main_model, output_nets}
use Rattle.netlist_spec.specs.Ordered.{IsOrdered, OrderFault, cell_nets, driven_by, order_fault}
use Rattle.netlist_spec.specs.CellBits.{Bit, Finding, HasOneBit, IsFinding, cells_of, wide, unused, shared, reads_output}
use Rattle.netlist_spec.specs.Reads.{Reads}
use Rattle.gate_net.specs.Bit.{bit_of}
use Rattle.gate_net.specs.declared.words.Bit.{Bit as MachineBit}
use Rattle.imp_text.specs.declared.names.NameId.{NameId}
use Rattle.blif_read.specs.declared.file.File.{File as ReadFile}
use Rattle.blif_read.specs.declared.file.Model.{Model as ReadModel}
use Rattle.blif_read.specs.declared.file.Located.{Located}
use Rattle.blif_read.specs.declared.file.Port.{Port}
use Rattle.blif_read.specs.declared.file.Statement.{Statement}
use Rattle.blif_read.specs.declared.file.Statement.TheVariants.{Names, Latch, Subckt}
use Rattle.blif_read.specs.View.{file_of, model_of, name_at, located_of, statement_of}
use Rattle.line_order.specs.Faults.{IsFault}
use Rattle.line_order.proofs.MarkLemmas.{each_of}
use Rattle.audit_laws.specs.OnePass.{IsNoSubckt}
use Rattle.independence_audit.specs.declared.types.Audit.{Audit}
use Rattle.independence_audit.specs.declared.types.Audit.TheVariants.{Independent, Wide, Unused, Shared, OutputRead}
use Rattle.independence_audit.specs.Audited.{IsAudit, cell_name}
use Rattle.independence_audit.proofs.KnownLemmas.{ports_named}
use Rattle.independence_audit.proofs.TellLemmas.{cell_at, cells_are, cells_in, no_subckt_at}
use Rattle.program_spec.specs.Commands.{audit, netlist_limit}
use Rattle.program_spec.specs.Printed.{IsFindingText, IsIndependentText, bit_text, bits_lines, finding_text}
use Rattle.program_spec.specs.Refusals.{out_of_order}
use Rattle.program_spec.specs.Walk.{Walk, end, passes}
use Rattle.program_spec.specs.Steps.{reading}
use Rattle.program_spec.specs.Verdict.{IsTextOfFile, walk_of}
use Rattle.impeccable.specs.declared.ended.Stop.{Stop}
use Rattle.impeccable.specs.Answers.{WhereTold}
use Rattle.impeccable.specs.Audit.{HasFewBits, audit_text, line_text, success_of}
use Rattle.impeccable.specs.Ended.{fault_answer, stop_answer}
use Rattle.impeccable.specs.Loads.{StopsLoad}
use Rattle.impeccable.specs.Steps.{IsPrepared, Passed, Stops}
use Rattle.impeccable.proofs.OrderedLemmas.{IsHeld, of_file, file-read, file-ordered, file-unread, file-unordered, is-main}
use Rattle.impeccable.proofs.StepLemmas.{starts}

-- ---- steps

abbrev ends : Model → Walk
ends m = end

module _ (n : List ℕ) (old : FilesSeen) where
  pub read : (file : File) → IsHeld old n file → Passed old (walk_of (audit n)) (of_file ends file)
  read file held = file-read (audit n) n ends old file (starts old (walk_of (audit n))) held

  pub in-order : (file : File) → IsOrdered file → IsHeld old n file → Passed old (walk_of (audit n)) end
  in-order file ordered held = file-ordered (audit n) n ends old file ordered (read file held)

  pub unread : (new : FilesSeen) (stop : Stop) → StopsLoad File old n netlist_limit reading (stop_answer stop) new → Stops (audit n) old stop new
  unread new stop h = file-unread (audit n) n ends old new stop (starts old (walk_of (audit n))) h

  pub out-of-order : (new : FilesSeen) (file : File) (fault : Option OrderFault) (stop : Stop) → IsHeld old n file → IsFault (order_fault file) fault → stop_answer stop ≡ fault_answer OrderFault out_of_order fault → Stops (audit n) old stop new
  out-of-order new file fault stop held h is = file-unordered (audit n) n ends old new file fault stop (read file held) h is

-- ---- the text of what an audit says

held-text : (held : Option (List ℕ)) (file : File) (IsText : File → List ℕ → Type 0) (text : List ℕ) → IsText file text → IsSomeAnd held (λ bytes. (length bytes ≤ netlist_limit) × Reads bytes file) → IsSomeAnd held (λ bytes. IsTextOfFile IsText bytes text)
held-text None file IsText text is h = h
held-text (Some bytes) file IsText text is h = record { file = file; reads = h.1; is_text = is }

module _ (n : List ℕ) (old : FilesSeen) (file : File) (m : Model) (main : main_model file ≡ Some m) (held : IsHeld old n file) (p : Passed old (walk_of (audit n)) end) where
  found-prepared : (finding : Finding) → IsFinding m finding → ⊤ × WhereTold old (λ contents. IsSomeAnd (contents n) (λ bytes. IsTextOfFile IsFindingText bytes (finding_text m finding)))
  found-prepared finding is = (tt, λ known. held-text (bytes_at old.told n) file IsFindingText (finding_text m finding) (record { model = m; is_model = main; finding = finding; is_finding = is; is_text = refl }) (held known))

  pub is-prepared : (said : Audit) → IsAudit file m said → IsPrepared (audit n) (success_of said) old (audit_text m said)
  is-prepared (Independent bits) h = λ known. (
    p.verdict known passes refl,
    held-text (bytes_at old.told n) file IsIndependentText (audit_text m (Independent bits)) (record { model = m; is_model = main; independent = h.0; bits = map bit_of bits.items; are_bits = h.1; is_text = refl }) (held known),
  )
  is-prepared (Wide cell) h = (tt, λ known. (p.verdict known passes refl, (found-prepared (wide (cell_name m cell)) h).1 known))
  is-prepared (Unused cell) h = (tt, λ known. (p.verdict known passes refl, (found-prepared (unused (cell_name m cell)) h).1 known))
  is-prepared (Shared cell one other) h = (tt, λ known. (p.verdict known passes refl, (found-prepared (shared (cell_name m cell) (bit_of one) (bit_of other)) h).1 known))
  is-prepared (OutputRead net cell) h = (tt, λ known. (p.verdict known passes refl, (found-prepared (reads_output (name_at m.names net) (cell_name m cell)) h).1 known))

-- ---- the one model of a file

first-of : (models : List ReadModel) (m : ReadModel) (k : Model) → m ≡ get_or models 0 m → map model_of models ≡ k ∷ [] → k ≡ model_of m
first-of [] m k e f = absurd (cc f)
first-of (x ∷ models) m k e f = let g : model_of x ≡ k = cc f in sym g ∙ ap model_of (sym e)

some-model : (models : List ReadModel) (k : Model) → map model_of models ≡ k ∷ [] → 0 < length models
some-model [] k e = absurd (cc e)
some-model (m ∷ models) k e = omega arith

pub has-model : (file : ReadFile) → IsOrdered (file_of file) → 0 < length file.models.items
has-model file ordered = some-model file.models.items ordered.model ordered.one_model

-- where there is no `.subckt`, as many cells as statements
cells-long : (all : List Name) (ss : List Located) → AllByRecursion (λ s. IsNoSubckt s) (cells_in all ss) → length (flat_map (λ s. driven_by s.what) (map (located_of all) ss)) ≡ length ss
cells-long all [] a = refl
cells-long all (s ∷ ss) a = one s.what a.0 (cells-long all ss a.1)
  where
    one : (what : Statement) → IsNoSubckt (statement_of all what) → length (flat_map (λ s. driven_by s.what) (map (located_of all) ss)) ≡ length ss → length (driven_by (statement_of all what) ++ flat_map (λ s. driven_by s.what) (map (located_of all) ss)) ≡ suc (length ss)
    one (Names ins out cover) h e = ap suc e
    one (Latch d q clocking init) h e = ap suc e
    one (Subckt model binds) h e = cc h

module _ (m : ReadModel) (cells : All IsNoSubckt (cells_of (model_of m))) where
  each-cell : AllByRecursion (λ s. IsNoSubckt s) (cells_in m.names m.statements.items)
  each-cell = subst (AllByRecursion (λ s. IsNoSubckt s)) (cells_are m.names m.statements.items) (each_of IsNoSubckt (cells_of (model_of m)) cells)

  few-of : length (cells_of (model_of m)) ≡ length (cell_nets (model_of m))
  few-of = ap length (cells_are m.names m.statements.items) ∙ (length-map m.statements.items (λ (s : Located). statement_of m.names s.what) ∙ sym (cells-long m.names m.statements.items each-cell))

  pub few-bits : (file : File) (said : Audit) → IsAudit file (model_of m) said → HasFewBits (model_of m) said
  few-bits file (Independent bits) h =
      let same : length (map bit_of bits.items) ≡ length (cells_of (model_of m)) = AllZip-long (λ s bit. HasOneBit (model_of m) s bit) (cells_of (model_of m)) (map bit_of bits.items) h.1 in
      let count : length (map bit_of bits.items) ≡ length bits.items = length-map bits.items bit_of in
      omega (arith, same, count, few-of)
  few-bits file (Wide cell) h = tt
  few-bits file (Unused cell) h = tt
  few-bits file (Shared cell one other) h = tt
  few-bits file (OutputRead net cell) h = tt

  -- the net of a cell by its number
  pub cell-named : (place : ℕ) (s : Located) (net : Name) → place < length m.statements.items → s ≡ get_or m.statements.items place s → driven_by (statement_of m.names s.what) ≡ net ∷ [] → net ≡ get_or (cell_nets (model_of m)) place []
  cell-named place s net within is drives =
      let there = cell_at m.names m.statements.items each-cell place s within in
      let here : net ∷ [] ≡ get_or (cell_nets (model_of m)) place [] ∷ [] = sym drives ∙ (ap (λ (x : Located). driven_by (statement_of m.names x.what)) is ∙ there) in
      cc here

  pub no-such-cell : (place : ℕ) → length m.statements.items ≤ place → [] ≡ get_or (cell_nets (model_of m)) place []
  no-such-cell place past =
      let long = cells-long m.names m.statements.items each-cell in
      sym (get_or_past (cell_nets (model_of m)) place [] (omega (arith, past, long)))

  pub is-no-subckt : (place : ℕ) (s : Located) → place < length m.statements.items → s ≡ get_or m.statements.items place s → IsNoSubckt (statement_of m.names s.what)
  is-no-subckt place s within is = subst (λ (x : Located). IsNoSubckt (statement_of m.names x.what)) (sym is) (no_subckt_at m.names m.statements.items each-cell place s within)

module _ (file : ReadFile) (m : ReadModel) (first : m ≡ get_or file.models.items 0 m) (ordered : IsOrdered (file_of file)) where
  pub is-main-model : main_model (file_of file) ≡ Some (model_of m)
  is-main-model = is-main (file_of file) ordered ∙ ap (λ k. Some k) (first-of file.models.items m ordered.model first ordered.one_model)

  pub is-audit : (said : Audit) → IfSome (main_model (file_of file)) (λ k. IsAudit (file_of file) k said) → IsAudit (file_of file) (model_of m) said
  is-audit said h = subst (λ found. IfSome found (λ k. IsAudit (file_of file) k said)) is-main-model h

-- ---- nets by number

pub id-named : (all : List Name) (ids : List NameId) (nets : List Name) (i : ℕ) (id : NameId) → map (name_at all) ids ≡ nets → i < length ids → id ≡ get_or ids i id → name_at all id ≡ get_or nets i []
id-named all ids nets i id are within is =
    ap (name_at all) is ∙ (sym (get_or-map (name_at all) ids i id [] within) ∙ ap (λ (ns : List Name). get_or ns i []) are)

pub no-such-id : (all : List Name) (ids : List NameId) (nets : List Name) (i : ℕ) → map (name_at all) ids ≡ nets → length ids ≤ i → [] ≡ get_or nets i []
no-such-id all ids nets i are past =
    let long = length-map ids (name_at all) in
    sym (ap (λ (ns : List Name). get_or ns i []) (sym are) ∙ get_or_past (map (name_at all) ids) i [] (omega (arith, past, long)))

-- the outputs
abbrev output-ids : List Port → List NameId
output-ids ports = map (λ (p : Port). p.name) ports

pub output-named : (m : ReadModel) (i : ℕ) (port : Port) → i < length m.outputs.items → port ≡ get_or m.outputs.items i port → name_at m.names port.name ≡ get_or (output_nets (model_of m)) i []
output-named m i port within is =
    let long = length-map m.outputs.items (λ (p : Port). p.name) in
    let there : get_or (output-ids m.outputs.items) i port.name ≡ (get_or m.outputs.items i port).name = get_or-map (λ (p : Port). p.name) m.outputs.items i port port.name within in
    id-named m.names (output-ids m.outputs.items) (output_nets (model_of m)) i port.name (ports_named m.names m.outputs.items) (omega (arith, within, long)) (ap (λ (p : Port). p.name) is ∙ sym there)

pub no-such-output : (m : ReadModel) (i : ℕ) → length m.outputs.items ≤ i → [] ≡ get_or (output_nets (model_of m)) i []
no-such-output m i past =
    let long = length-map m.outputs.items (λ (p : Port). p.name) in
    no-such-id m.names (output-ids m.outputs.items) (output_nets (model_of m)) i (ports_named m.names m.outputs.items) (omega (arith, past, long))

-- ---- lines

abbrev line-of : Model → Name × Bit → List ℕ
line-of m p = p.0 ++ 32 ∷ (bit_text m p.1 ++ 10 ∷ [])

no-bits : (cells : List Name) → zip cells (let none : List Bit = [] in none) ≡ []
no-bits [] = refl
no-bits (n ∷ cells) = refl

-- the line of one more cell
more-lines : (m : Model) (cells : List Name) (bits : List Bit) (bit : Bit) → length bits < length cells
    → flat_map (line-of m) (zip cells bits) ++ line-of m (get_or cells (length bits) [], bit) ≡ flat_map (line-of m) (zip cells (bits ++ bit ∷ []))
more-lines m [] bits bit few = absurd (omega arith)
more-lines m (n ∷ cells) [] bit few =
    sym (ap (λ (ps : List (Name × Bit)). line-of m (n, bit) ++ flat_map (line-of m) ps) (no-bits cells) ∙ append-nil (line-of m (n, bit)))
more-lines m (n ∷ cells) (b ∷ bits) bit few =
    append_assoc (line-of m (n, b)) (flat_map (line-of m) (zip cells bits)) (line-of m (get_or cells (length bits) [], bit))
    ∙ ap (λ (text : List ℕ). line-of m (n, b) ++ text) (more-lines m cells bits bit (omega arith))

one-more-line : (m : Model) (bits : List Bit) (place : ℕ) (bit : Bit) → length bits ≡ place → place < length (cell_nets m) → bits_lines m bits ++ line_text m place bit ≡ bits_lines m (bits ++ bit ∷ [])
one-more-line m bits place bit is within =
    ap (λ (k : ℕ). bits_lines m bits ++ line_text m k bit) (sym is) ∙ more-lines m (cell_nets m) bits bit (omega (arith, is, within))

pub no-lines : (m : Model) → [] ≡ bits_lines m []
no-lines m = sym (ap (λ (ps : List (Name × Bit)). flat_map (line-of m) ps) (no-bits (cell_nets m)))

pub lines-so-far : (m : Model) (bits : List MachineBit) (place : ℕ) (d : MachineBit) → place < length bits → length bits ≤ length (cell_nets m) → bits_lines m (map bit_of (take place bits)) ++ line_text m place (bit_of (get_or bits place d)) ≡ bits_lines m (map bit_of (take (place + 1) bits))
lines-so-far m bits place d within few =
    let long : length (map bit_of (take place bits)) ≡ place = length-map (take place bits) bit_of ∙ length-take-le place bits (omega (arith, within)) in
    one-more-line m (map bit_of (take place bits)) place (bit_of (get_or bits place d)) long (omega (arith, within, few))
    ∙ ap (bits_lines m) (sym (ap (map bit_of) (take_more bits place d within) ∙ map-append bit_of (take place bits) (get_or bits place d ∷ [])))

-- the pieces of a line, and of that of a shared cell
pub line-joined : (cell bit : List ℕ) → ((cell ++ 32 ∷ []) ++ bit) ++ 10 ∷ [] ≡ cell ++ 32 ∷ (bit ++ 10 ∷ [])
line-joined cell bit = append_assoc (cell ++ 32 ∷ []) bit (10 ∷ []) ∙ append_assoc cell (32 ∷ []) (bit ++ 10 ∷ [])

pub shared-joined : (front cell one other : List ℕ) → ((((front ++ (cell ++ 32 ∷ [])) ++ one) ++ 32 ∷ []) ++ other) ++ 10 ∷ [] ≡ front ++ (cell ++ 32 ∷ (one ++ 32 ∷ (other ++ 10 ∷ [])))
shared-joined front cell one other =
    let head = front ++ (cell ++ 32 ∷ []) in
    let tail = other ++ 10 ∷ [] in
    append_assoc ((head ++ one) ++ 32 ∷ []) other (10 ∷ [])
    ∙ append_assoc (head ++ one) (32 ∷ []) tail
    ∙ append_assoc head one (32 ∷ tail)
    ∙ append_assoc front (cell ++ 32 ∷ []) (one ++ 32 ∷ tail)
    ∙ ap (λ (text : List ℕ). front ++ text) (append_assoc cell (32 ∷ []) (one ++ 32 ∷ tail))
