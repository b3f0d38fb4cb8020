-- One line more, of a model and of a file.
use Rattle.std.proofs.Common.{◌≡◌, ◌<◌, ◌≤◌, ◌+◌, ℕ, Bool, true, false, List, [], ◌∷◌, ◌++◌, length, map, drop, refl, sym, ap, ap₂, ◌∙◌, arith, Option, None, Some, append_assoc, append-nil, subst, length-append}
use Rattle.std.specs.List.{AllByRecursion, flat_map}
use Rattle.std.proofs.lemmas.Grind.{flat_map-append}
use Rattle.std.proofs.lemmas.List.Elements.{All-from_recursion}
use Rattle.std.proofs.lemmas.List.{map-append, length-map}
use Rattle.netlist_spec.specs.Netlist.{Name, Port, Located, Model, names, latch, subckt, Statement, Clocking, plain, edge, Bind}
use Rattle.netlist_spec.specs.Statements.{Cell, Said, model_line, inputs_line, outputs_line, clock_line, names_line, row_line, latch_line, subckt_line, end_line, spelling, clocking_words, init_words, bind_word, Says}
use Rattle.netlist_spec.specs.Reads.{Numbered, rows_at, cover_of, inputs_in, outputs_in, clocks_in, nets_in, statements_in, first_appearances, models_of, model_of, model_body}
use Rattle.blif_read.specs.declared.file.Port.{Port as ReadPort}
use Rattle.blif_read.specs.declared.file.Located.{Located as ReadLocated}
use Rattle.blif_read.specs.declared.file.Statement.{Statement as ReadStatement}
use Rattle.netlist_spec.specs.Lines.{Word, Line}
use Rattle.netlist_spec.specs.ReadFaults.{Kind, model_kind, inputs_kind, outputs_kind, clock_kind, names_kind, latch_kind, subckt_kind, end_kind, other_kind, row_kind, kind_of, arguments}
use Rattle.netlist_spec.specs.Said.{said_by, said_of, row_said, latch_said, subckt_said}
use Rattle.std.specs.Prelude.{Vec, All, is_some, Result, Ok, Err, OnOk}
use Rattle.std.specs.declared.alloc.Global.{Global}
use Rattle.imp_text.specs.declared.names.NameId.{NameId}
use Rattle.imp_text.specs.declared.cover.Cover.{Cover as ReadCover}
use Rattle.imp_text.proofs.NamesLemmas.{AllByRecursion-append}
use Rattle.blif_read.specs.declared.file.Bind.{Bind as ReadBind}
use Rattle.blif_read.specs.declared.file.Clocking.{Clocking as ReadClocking}
use Rattle.blif_read.specs.declared.file.Model.{Model as ReadModel}
use Rattle.blif_read.specs.declared.file.Statement.TheVariants.{Names, Latch, Subckt}
use Rattle.blif_read.specs.declared.model.OpenCover.{OpenCover}
use Rattle.blif_read.specs.declared.model.ModelSoFar.{ModelSoFar}
use Rattle.blif_read.specs.Ids.{IsIdOf, ids_in, HasIds}
use Rattle.blif_read.specs.View.{port_of, located_of, name_at, cover_of as cover_in, model_of as model_in}
use Rattle.blif_read.specs.Spelled.{with_names, AreNumbers, port_at, AddsPorts, Spells, SpellsEach, SpellsSome, statement_said, nets_of}
use Rattle.blif_read.proofs.SpelledLemmas.{with_names-first, with_names-grows, name-is}
use Rattle.std.proofs.lemmas.Option.{slice_get_within}
use Rattle.netlist_spec.specs.Reads.{ports_at, control_nets}
use Rattle.blif_read.specs.Building.{SpellsPorts, IsRowLine, IsNoRowLine, IsNoModelLine, IsOpenCover, AreStatements, AddsRow, AddsLine, PutsStatement, declares_ports, is_names, opens, IsModelSoFar, IsLastModel, AreModels, AreClosed}
use Rattle.blif_read.specs.Summaries.{is_model, is_row}
use Rattle.blif_read.specs.LineTests.{words_in}
use denote.Ref.{Bor}

-- ---- The definition.

-- Rows go on with rows.
pub rows_more : (rows : List Numbered) (n : ℕ) (cells : List Cell) (last : Bool) → AllByRecursion IsRowLine rows → rows_at (rows ++ (n, row_line cells last) ∷ []) ≡ rows_at rows ++ (cells, last) ∷ []
rows_more [] n cells last h = refl
rows_more ((k, row_line more again) ∷ rows) n cells last h = ap (λ rs. (more, again) ∷ rs) (rows_more rows n cells last h.1)
rows_more ((k, _) ∷ rows) n cells last h = absurd h.0

pub are_rows_more : (rows : List Numbered) (n : ℕ) (cells : List Cell) (last : Bool) → AllByRecursion IsRowLine rows → AllByRecursion IsRowLine (rows ++ (n, row_line cells last) ∷ [])
are_rows_more [] n cells last h = (tt, tt)
are_rows_more (r ∷ rows) n cells last h = (h.0, are_rows_more rows n cells last h.1)

-- The rows at the front don't reach past a line that is no row.
rows_end : (ls : List Numbered) (x : Numbered) (rest : List Numbered) → IsNoRowLine x → rows_at (ls ++ x ∷ rest) ≡ rows_at ls
rows_end [] (n, row_line cells last) rest h = absurd h
rows_end [] (n, _) rest h = refl
rows_end ((k, row_line cells last) ∷ ls) x rest h = ap (λ rs. (cells, last) ∷ rs) (rows_end ls x rest h)
rows_end ((k, _) ∷ ls) x rest h = refl

-- the statements of lines, cut before one that is no row
pub statements_cut : (ls : List Numbered) (x : Numbered) (rest : List Numbered) → IsNoRowLine x → statements_in (ls ++ x ∷ rest) ≡ statements_in ls ++ statements_in (x ∷ rest)
statements_cut [] x rest h = refl
statements_cut ((n, names_line ins out) ∷ ls) x rest h =
    ap₂ (λ rs ss. record { line = n; what = names ins out (cover_of rs) } ∷ ss) (rows_end ls x rest h) (statements_cut ls x rest h)
statements_cut ((n, latch_line d q clocking init) ∷ ls) x rest h = ap (λ ss. record { line = n; what = latch d q clocking init } ∷ ss) (statements_cut ls x rest h)
statements_cut ((n, subckt_line model binds) ∷ ls) x rest h = ap (λ ss. record { line = n; what = subckt model binds } ∷ ss) (statements_cut ls x rest h)
statements_cut ((n, _) ∷ ls) x rest h = statements_cut ls x rest h

-- rows are no statements
no_statements : (rows : List Numbered) → AllByRecursion IsRowLine rows → statements_in rows ≡ []
no_statements [] h = refl
no_statements ((n, row_line cells last) ∷ rows) h = no_statements rows h.1
no_statements ((n, _) ∷ rows) h = absurd h.0

-- a `.names` and rows are one statement
pub statements_of_cover : (ls : List Numbered) (n : ℕ) (ins : List Name) (out : Name) (rows : List Numbered) → AllByRecursion IsRowLine rows → statements_in (ls ++ (n, names_line ins out) ∷ rows) ≡ statements_in ls ++ record { line = n; what = names ins out (cover_of (rows_at rows)) } ∷ []
statements_of_cover ls n ins out rows h =
    statements_cut ls (n, names_line ins out) rows tt
    ∙ ap (λ ss. statements_in ls ++ record { line = n; what = names ins out (cover_of (rows_at rows)) } ∷ ss) (no_statements rows h)

-- The lines of a model end where the next one begins.
body_ends : (ls : List Numbered) (n : ℕ) (name : Name) (rest : List Numbered) → model_body (ls ++ (n, model_line name) ∷ rest) ≡ model_body ls
body_ends [] n name rest = refl
body_ends ((k, model_line x) ∷ ls) n name rest = refl
body_ends ((k, inputs_line x) ∷ ls) n name rest = ap (λ b. (k, inputs_line x) ∷ b) (body_ends ls n name rest)
body_ends ((k, outputs_line x) ∷ ls) n name rest = ap (λ b. (k, outputs_line x) ∷ b) (body_ends ls n name rest)
body_ends ((k, clock_line x) ∷ ls) n name rest = ap (λ b. (k, clock_line x) ∷ b) (body_ends ls n name rest)
body_ends ((k, names_line x y) ∷ ls) n name rest = ap (λ b. (k, names_line x y) ∷ b) (body_ends ls n name rest)
body_ends ((k, row_line x y) ∷ ls) n name rest = ap (λ b. (k, row_line x y) ∷ b) (body_ends ls n name rest)
body_ends ((k, latch_line d q c i) ∷ ls) n name rest = ap (λ b. (k, latch_line d q c i) ∷ b) (body_ends ls n name rest)
body_ends ((k, subckt_line x y) ∷ ls) n name rest = ap (λ b. (k, subckt_line x y) ∷ b) (body_ends ls n name rest)
body_ends ((k, end_line) ∷ ls) n name rest = ap (λ b. (k, end_line) ∷ b) (body_ends ls n name rest)

whole_body : (ls : List Numbered) → AllByRecursion IsNoModelLine ls → model_body ls ≡ ls
whole_body [] h = refl
whole_body ((k, model_line x) ∷ ls) h = absurd h.0
whole_body ((k, inputs_line x) ∷ ls) h = ap (λ b. (k, inputs_line x) ∷ b) (whole_body ls h.1)
whole_body ((k, outputs_line x) ∷ ls) h = ap (λ b. (k, outputs_line x) ∷ b) (whole_body ls h.1)
whole_body ((k, clock_line x) ∷ ls) h = ap (λ b. (k, clock_line x) ∷ b) (whole_body ls h.1)
whole_body ((k, names_line x y) ∷ ls) h = ap (λ b. (k, names_line x y) ∷ b) (whole_body ls h.1)
whole_body ((k, row_line x y) ∷ ls) h = ap (λ b. (k, row_line x y) ∷ b) (whole_body ls h.1)
whole_body ((k, latch_line d q c i) ∷ ls) h = ap (λ b. (k, latch_line d q c i) ∷ b) (whole_body ls h.1)
whole_body ((k, subckt_line x y) ∷ ls) h = ap (λ b. (k, subckt_line x y) ∷ b) (whole_body ls h.1)
whole_body ((k, end_line) ∷ ls) h = ap (λ b. (k, end_line) ∷ b) (whole_body ls h.1)

no_models : (ls : List Numbered) → AllByRecursion IsNoModelLine ls → models_of ls ≡ []
no_models [] h = refl
no_models ((k, model_line x) ∷ ls) h = absurd h.0
no_models ((k, _) ∷ ls) h = no_models ls h.1

-- the last model, and those before
pub models_cut : (ls : List Numbered) (n : ℕ) (name : Name) (body : List Numbered) → AllByRecursion IsNoModelLine body → models_of (ls ++ (n, model_line name) ∷ body) ≡ models_of ls ++ model_of n name body ∷ []
models_cut [] n name body h = ap₂ (λ b ms. model_of n name b ∷ ms) (whole_body body h) (no_models body h)
models_cut ((k, model_line x) ∷ ls) n name body h = ap₂ (λ b ms. model_of k x b ∷ ms) (body_ends ls n name body) (models_cut ls n name body h)
models_cut ((k, _) ∷ ls) n name body h = models_cut ls n name body h

pub no_model_more : (ls : List Numbered) (x : Numbered) → AllByRecursion IsNoModelLine ls → IsNoModelLine x → AllByRecursion IsNoModelLine (ls ++ x ∷ [])
no_model_more [] x h k = (k, tt)
no_model_more (l ∷ ls) x h k = (h.0, no_model_more ls x h.1 k)

-- one line more, in what is gathered line by line
pub gathered_more : {A : Type 0} (f : Numbered → List A) (ls : List Numbered) (x : Numbered) → flat_map f (ls ++ x ∷ []) ≡ flat_map f ls ++ f x
gathered_more f ls x = flat_map-append f ls (x ∷ []) ∙ ap (λ ys. flat_map f ls ++ ys) (append-nil (f x))

pub gathered_same : {A : Type 0} (f : Numbered → List A) (ls : List Numbered) (x : Numbered) → f x ≡ [] → flat_map f (ls ++ x ∷ []) ≡ flat_map f ls
gathered_same f ls x none = gathered_more f ls x ∙ (ap (λ ys. flat_map f ls ++ ys) none ∙ append-nil (flat_map f ls))

-- ---- Statements.

-- one statement more
pub each_more : (all : List Name) (statements : List ReadLocated) (spelled : List Located) (s : ReadLocated) (n : ℕ) (what : Statement) → s.line ≡ n → Spells all s.what what → SpellsEach all statements spelled → SpellsEach all (statements ++ s ∷ []) (spelled ++ record { line = n; what = what } ∷ [])
each_more all statements spelled s n what at here before =
    record {
      same = λ more.
          map-append (located_of (all ++ more)) statements (s ∷ [])
          ∙ ap₂ (λ (a : List Located) (b : List Located). a ++ b) (before.same more) (λ i. record { line = at i; what = here.same more i } ∷ []);
      within = AllByRecursion-append (λ (l : ReadLocated). All (IsIdOf all) (ids_in l.what)) statements (s ∷ []) before.within (here.within, tt);
    }

-- The open cover becomes the last statement.
close_open : (all : List Name) (old : List ReadLocated) (last : OpenCover) (lines : List Numbered) → IsOpenCover all old last lines → SpellsEach all (old ++ record { line = last.line; what = Names last.ins last.out last.cover } ∷ []) (statements_in lines)
close_open all old last lines l =
    let s : ReadLocated = record { line = last.line; what = Names last.ins last.out last.cover } in
    let spelled : statements_in lines ≡ statements_in l.before ++ record { line = last.line; what = names l.ins l.out (cover_of (rows_at l.rows)) } ∷ []
    = ap statements_in l.split ∙ statements_of_cover l.before last.line l.ins l.out l.rows l.are_rows in
    subst (λ (ys : List Located). SpellsEach all (old ++ s ∷ []) ys) (sym spelled)
    (each_more all old (statements_in l.before) s last.line (names l.ins l.out (cover_of (rows_at l.rows))) refl l.cover l.closed_are)

pub close_statements : (all : List Name) (old new : List ReadLocated) (before after : Option OpenCover) (last : OpenCover) (located : ReadLocated) (lines : List Numbered) → before ≡ Some last → after ≡ None → located ≡ record { line = last.line; what = Names last.ins last.out last.cover } → new ≡ old ++ located ∷ []
    → AreStatements all old before lines → AreStatements all new after lines
close_statements all old new before after last located lines was none is pushed h =
    let l : IsOpenCover all old last lines = subst (λ (o : Option OpenCover). AreStatements all old o lines) {x = before} {y = Some last} was h in
    let pushed_is : new ≡ old ++ record { line = last.line; what = Names last.ins last.out last.cover } ∷ [] = pushed ∙ ap (λ (x : ReadLocated). old ++ x ∷ []) is in
    subst (λ (o : Option OpenCover). AreStatements all new o lines) (sym none)
    (subst (λ (xs : List ReadLocated). SpellsEach all xs (statements_in lines)) (sym pushed_is) (close_open all old last lines l))

-- another cover of the same nets
other_cover : (all : List Name) (ins : Vec NameId Global) (out : NameId) (c d : ReadCover) (nets : List Name) (net : Name) (old new : List (List Cell × Bool)) → Spells all (Names ins out c) (names nets net (cover_of old)) → (cover_in c ≡ cover_of old → cover_in d ≡ cover_of new)
    → Spells all (Names ins out d) (names nets net (cover_of new))
other_cover all ins out c d nets net old new h goes =
    record {
      same = λ more. let e : names (map (name_at (all ++ more)) ins.items) (name_at (all ++ more) out) (cover_in c) ≡ names nets net (cover_of old) = h.same more in
          let was : cover_in c ≡ cover_of old = cc e in
          let is : cover_in d ≡ cover_of new = goes was in
          let a : map (name_at (all ++ more)) ins.items ≡ nets = cc e in
          let b : name_at (all ++ more) out ≡ net = cc e in
          λ i. names (a i) (b i) (is i);
      within = h.within;
    }

-- A row goes to the open cover.
row_open : (all : List Name) (closed : List ReadLocated) (last new : OpenCover) (lines : List Numbered) (n : ℕ) (cells : List Cell) (bit : Bool) → new.line ≡ last.line → new.ins ≡ last.ins → new.out ≡ last.out
    → AddsRow last.cover (row_line cells bit) new.cover → IsOpenCover all closed last lines → IsOpenCover all closed new (lines ++ (n, row_line cells bit) ∷ [])
row_open all closed last new lines n cells bit line ins out adds l =
    let more = rows_more l.rows n cells bit l.are_rows in
    let rows : List (List Cell × Bool) = rows_at l.rows ++ (cells, bit) ∷ [] in
    let cover : Spells all (Names last.ins last.out new.cover) (names l.ins l.out (cover_of rows))
    = other_cover all last.ins last.out last.cover new.cover l.ins l.out (rows_at l.rows) rows l.cover (adds (rows_at l.rows)) in
    let there : Spells all (Names new.ins new.out new.cover) (names l.ins l.out (cover_of rows))
    = subst (λ (v : Vec NameId Global). Spells all (Names v new.out new.cover) (names l.ins l.out (cover_of rows))) (sym ins)
    (subst (λ (o : NameId). Spells all (Names last.ins o new.cover) (names l.ins l.out (cover_of rows))) (sym out) cover) in
    record {
      before = l.before;
      ins = l.ins;
      out = l.out;
      rows = l.rows ++ (n, row_line cells bit) ∷ [];
      split = ap (λ (ls : List Numbered). ls ++ (n, row_line cells bit) ∷ []) l.split
          ∙ (append_assoc l.before ((last.line, names_line l.ins l.out) ∷ l.rows) ((n, row_line cells bit) ∷ [])
          ∙ ap (λ (k : ℕ). l.before ++ (k, names_line l.ins l.out) ∷ (l.rows ++ (n, row_line cells bit) ∷ [])) (sym line));
      are_rows = are_rows_more l.rows n cells bit l.are_rows;
      closed_are = l.closed_are;
      cover = subst (λ (rs : List (List Cell × Bool)). Spells all (Names new.ins new.out new.cover) (names l.ins l.out (cover_of rs))) (sym more) there;
    }

-- a row of a model
pub row_more : (m : ReadModel) (before : Option OpenCover) (last new : OpenCover) (at : ℕ) (name : Name) (lines : List Numbered) (n : ℕ) (said : Said) → before ≡ Some last → new.line ≡ last.line → new.ins ≡ last.ins → new.out ≡ last.out → AddsRow last.cover said new.cover → IsRowLine (n, said)
    → IsModelSoFar (record { model = m; cover = before }) at name lines → IsModelSoFar (record { model = m; cover = Some new }) at name (lines ++ (n, said) ∷ [])
row_more m before last new at name lines n (row_line cells bit) was line ins out adds row h =
    let x : Numbered = (n, row_line cells bit) in
    record {
      name_is = h.name_is;
      line_is = h.line_is;
      names_are = h.names_are ∙ ap first_appearances (sym (gathered_same nets_in lines x refl));
      inputs = subst (λ (ps : List Port). SpellsPorts m.names m.inputs.items ps) (sym (gathered_same inputs_in lines x refl)) h.inputs;
      outputs = subst (λ (ps : List Port). SpellsPorts m.names m.outputs.items ps) (sym (gathered_same outputs_in lines x refl)) h.outputs;
      clocks = subst (λ (ps : List Port). SpellsPorts m.names m.clocks.items ps) (sym (gathered_same clocks_in lines x refl)) h.clocks;
      statements = row_open m.names m.statements.items last new lines n cells bit line ins out adds
          (subst (λ (o : Option OpenCover). AreStatements m.names m.statements.items o lines) {x = before} {y = Some last} was h.statements);
    }
row_more m before last new at name lines n said was line ins out adds row h = absurd row

-- a line whose first word is none of the statements' is a row
pub row_is_said : (l : Line) → kind_of l ≡ row_kind → said_of l ≡ row_said l.words
row_is_said l e = ap (λ k. said_by k (arguments l) l.words) e

pub said_row : (n : ℕ) (ws : List Word) → 0 < length ws → IsRowLine (n, row_said ws)
said_row n [] some = absurd (omega arith)
said_row n (w ∷ []) some = tt
said_row n (w ∷ v ∷ ws) some = tt

-- ---- More names.

-- what stays where names come behind the others
within_later : (all more : List Name) (ports : List ReadPort) → AllByRecursion (λ (port : ReadPort). IsIdOf all port.name) ports → AllByRecursion (λ (port : ReadPort). IsIdOf (all ++ more) port.name) ports
within_later all more [] h = tt
within_later all more (port ∷ ports) h = (omega (arith, h.0, length-append all more), within_later all more ports h.1)

ports_later : (all more : List Name) (ports : List ReadPort) (spelled : List Port) → SpellsPorts all ports spelled → SpellsPorts (all ++ more) ports spelled
ports_later all more ports spelled h =
    record {
      same = λ rest. ap (λ (ns : List Name). map (port_of ns) ports) (append_assoc all more rest) ∙ h.same (more ++ rest);
      within = within_later all more ports h.within;
    }

ids_later : (all more : List Name) (ids : List NameId) → All (IsIdOf all) ids → All (IsIdOf (all ++ more)) ids
ids_later all more ids h = λ k d inside. omega (arith, h k d inside, length-append all more)

each_within : (all more : List Name) (statements : List ReadLocated) → AllByRecursion (λ (l : ReadLocated). All (IsIdOf all) (ids_in l.what)) statements → AllByRecursion (λ (l : ReadLocated). All (IsIdOf (all ++ more)) (ids_in l.what)) statements
each_within all more [] h = tt
each_within all more (s ∷ statements) h = (ids_later all more (ids_in s.what) h.0, each_within all more statements h.1)

each_later : (all more : List Name) (statements : List ReadLocated) (spelled : List Located) → SpellsEach all statements spelled → SpellsEach (all ++ more) statements spelled
each_later all more statements spelled h =
    record {
      same = λ rest. ap (λ (ns : List Name). map (located_of ns) statements) (append_assoc all more rest) ∙ h.same (more ++ rest);
      within = each_within all more statements h.within;
    }

-- ports that are the same, where names are added
pub ports_kept : (all new added : List Name) (ports : List ReadPort) (spelled more : List Port) → new ≡ with_names all added → more ≡ [] → SpellsPorts all ports spelled → SpellsPorts new ports (spelled ++ more)
ports_kept all new added ports spelled more is none h =
    let grown = with_names-grows all added in
    let later : SpellsPorts new ports spelled = subst (λ (ns : List Name). SpellsPorts ns ports spelled) (sym (is ∙ grown.1)) (ports_later all grown.0 ports spelled h) in
    subst (λ (ps : List Port). SpellsPorts new ports ps) (sym (ap (λ (ps : List Port). spelled ++ ps) none ∙ append-nil spelled)) later

pub each_kept : (all new added : List Name) (statements : List ReadLocated) (spelled : List Located) → new ≡ with_names all added → SpellsEach all statements spelled → SpellsEach new statements spelled
each_kept all new added statements spelled is h =
    let grown = with_names-grows all added in
    subst (λ (ns : List Name). SpellsEach ns statements spelled) (sym (is ∙ grown.1)) (each_later all grown.0 statements spelled h)

-- ports of a line
new_ports : (all more : List Name) (n : ℕ) (ids : List NameId) (spelled : List Name) → AreNumbers all ids spelled → map (port_of (all ++ more)) (map (port_at n) ids) ≡ ports_at n spelled
new_ports all more n [] [] h = refl
new_ports all more n [] (m ∷ spelled) h = absurd h
new_ports all more n (id ∷ ids) [] h = absurd h
new_ports all more n (id ∷ ids) (m ∷ spelled) h = λ i. record { name = name-is all more id m h.0 i; line = n } ∷ new_ports all more n ids spelled h.1 i

new_within : (all : List Name) (n : ℕ) (ids : List NameId) (spelled : List Name) → AreNumbers all ids spelled → AllByRecursion (λ (port : ReadPort). IsIdOf all port.name) (map (port_at n) ids)
new_within all n [] spelled h = tt
new_within all n (id ∷ ids) [] h = absurd h
new_within all n (id ∷ ids) (m ∷ spelled) h = (slice_get_within all id.0 m h.0, new_within all n ids spelled h.1)

pub ports_added : (all new : List Name) (n : ℕ) (added : List Name) (old after : List ReadPort) (spelled : List Port) → new ≡ with_names all added → AddsPorts new n added old after → SpellsPorts all old spelled → SpellsPorts new after (spelled ++ ports_at n added)
ports_added all new n added old after spelled is (ids, pushed, numbers) h =
    let grown = with_names-grows all added in
    let later : SpellsPorts new old spelled = subst (λ (ns : List Name). SpellsPorts ns old spelled) (sym (is ∙ grown.1)) (ports_later all grown.0 old spelled h) in
    let both : SpellsPorts new (old ++ map (port_at n) ids) (spelled ++ ports_at n added) = record {
      same = λ more. map-append (port_of (new ++ more)) old (map (port_at n) ids) ∙ ap₂ (λ (a : List Port) (b : List Port). a ++ b) (later.same more) (new_ports new more n ids added numbers);
      within = AllByRecursion-append (λ (port : ReadPort). IsIdOf new port.name) old (map (port_at n) ids) later.within (new_within new n ids added numbers);
    } in
    subst (λ (ps : List ReadPort). SpellsPorts new ps (spelled ++ ports_at n added)) (sym pushed) both

-- ---- One line more of a model, where no cover is open.

-- a line that says no statement
pub each_same : (all new added : List Name) (statements : List ReadLocated) (lines : List Numbered) (x : Numbered) → new ≡ with_names all added → IsNoRowLine x → statements_in (x ∷ []) ≡ [] → SpellsEach all statements (statements_in lines) → SpellsEach new statements (statements_in (lines ++ x ∷ []))
each_same all new added statements lines x is row none h =
    let same : statements_in (lines ++ x ∷ []) ≡ statements_in lines = statements_cut lines x [] row ∙ (ap (λ (ss : List Located). statements_in lines ++ ss) none ∙ append-nil (statements_in lines)) in
    subst (λ (ss : List Located). SpellsEach new statements ss) (sym same) (each_kept all new added statements (statements_in lines) is h)

-- what a line adds to each part
pub line_more : (m new : ReadModel) (before after : Option OpenCover) (at : ℕ) (name : Name) (lines : List Numbered) (x : Numbered) → new.name ≡ m.name → new.line ≡ m.line → new.names ≡ with_names m.names (nets_in x)
    → SpellsPorts new.names new.inputs.items (flat_map inputs_in lines ++ inputs_in x) → SpellsPorts new.names new.outputs.items (flat_map outputs_in lines ++ outputs_in x) → SpellsPorts new.names new.clocks.items (flat_map clocks_in lines ++ clocks_in x)
    → AreStatements new.names new.statements.items after (lines ++ x ∷ []) → IsModelSoFar (record { model = m; cover = before }) at name lines → IsModelSoFar (record { model = new; cover = after }) at name (lines ++ x ∷ [])
line_more m new before after at name lines x same_name same_line names_grown inputs outputs clocks statements h =
    record {
      name_is = same_name ∙ h.name_is;
      line_is = same_line ∙ h.line_is;
      names_are = names_grown ∙ (ap (λ (ns : List Name). with_names ns (nets_in x)) h.names_are
          ∙ (with_names-first (flat_map nets_in lines) (nets_in x) ∙ ap first_appearances (sym (gathered_more nets_in lines x))));
      inputs = subst (λ (ps : List Port). SpellsPorts new.names new.inputs.items ps) (sym (gathered_more inputs_in lines x)) inputs;
      outputs = subst (λ (ps : List Port). SpellsPorts new.names new.outputs.items ps) (sym (gathered_more outputs_in lines x)) outputs;
      clocks = subst (λ (ps : List Port). SpellsPorts new.names new.clocks.items ps) (sym (gathered_more clocks_in lines x)) clocks;
      statements = statements;
    }

-- ---- Statements of lines.

-- a cover without rows so far
pub put_names : (old : List ReadLocated) (new : OpenCover) → PutsStatement old new.line (Names new.ins new.out new.cover) old (Some new)
put_names old new all lines (names_line ins out) h before =
    record {
      before = lines;
      ins = ins;
      out = out;
      rows = [];
      split = refl;
      are_rows = tt;
      closed_are = before;
      cover = h;
    }
put_names old new all lines (latch_line d q clocking init) h before = let e = h.same [] in cc e
put_names old new all lines (subckt_line model binds) h before = let e = h.same [] in cc e
put_names old new all lines said h before = absurd h

-- another statement
push_statement : (all : List Name) (old : List ReadLocated) (s : ReadLocated) (lines : List Numbered) (n : ℕ) (said : Said) (what : Statement) → s.line ≡ n → Spells all s.what what → IsNoRowLine (n, said) → statements_in ((n, said) ∷ []) ≡ record { line = n; what = what } ∷ []
    → SpellsEach all old (statements_in lines) → SpellsEach all (old ++ s ∷ []) (statements_in (lines ++ (n, said) ∷ []))
push_statement all old s lines n said what at here row is before =
    subst (λ (ss : List Located). SpellsEach all (old ++ s ∷ []) ss)
    (sym (statements_cut lines (n, said) [] row ∙ ap (λ (ss : List Located). statements_in lines ++ ss) is))
    (each_more all old (statements_in lines) s n what at here before)

pub put_latch : (old : List ReadLocated) (n : ℕ) (d q : NameId) (clocking : ReadClocking) (init : Option ℕ) → PutsStatement old n (Latch d q clocking init) (old ++ record { line = n; what = Latch d q clocking init } ∷ []) None
put_latch old n d q clocking init all lines (names_line ins out) h before = let e = h.same [] in cc e
put_latch old n d q clocking init all lines (latch_line d' q' clocking' init') h before =
    push_statement all old (record { line = n; what = Latch d q clocking init }) lines n (latch_line d' q' clocking' init') (latch d' q' clocking' init') refl h tt refl before
put_latch old n d q clocking init all lines (subckt_line model binds) h before = let e = h.same [] in cc e
put_latch old n d q clocking init all lines said h before = absurd h

pub put_subckt : (old : List ReadLocated) (n : ℕ) (model : Name) (binds : Vec ReadBind Global) → PutsStatement old n (Subckt model binds) (old ++ record { line = n; what = Subckt model binds } ∷ []) None
put_subckt old n model binds all lines (names_line ins out) h before = let e = h.same [] in cc e
put_subckt old n model binds all lines (latch_line d q clocking init) h before = let e = h.same [] in cc e
put_subckt old n model binds all lines (subckt_line model' binds') h before =
    push_statement all old (record { line = n; what = Subckt model binds }) lines n (subckt_line model' binds') (subckt model' binds') refl h tt refl before
put_subckt old n model binds all lines said h before = absurd h

put_pushed : (old new : List ReadLocated) (n : ℕ) (what : ReadStatement) (cover : Option OpenCover) → new ≡ old ++ record { line = n; what = what } ∷ [] → cover ≡ None → PutsStatement old n what (old ++ record { line = n; what = what } ∷ []) None → PutsStatement old n what new cover
put_pushed old new n what cover pushed none h =
    subst (λ (xs : List ReadLocated). PutsStatement old n what xs cover) (sym pushed)
    (subst (λ (o : Option OpenCover). PutsStatement old n what (old ++ record { line = n; what = what } ∷ []) o) (sym none) h)

pub put_other : (old new : List ReadLocated) (n : ℕ) (what : ReadStatement) (cover : Option OpenCover) → ((ins : Vec NameId Global) (out : NameId) (c : ReadCover) → what ≡ Names ins out c → ⊥) → cover ≡ None → new ≡ old ++ record { line = n; what = what } ∷ [] → PutsStatement old n what new cover × (is_some cover ≡ is_names what)
put_other old new n (Names ins out c) cover never none pushed = absurd (never ins out c refl)
put_other old new n (Latch d q clocking init) cover never none pushed =
    (put_pushed old new n (Latch d q clocking init) cover pushed none (put_latch old n d q clocking init), ap is_some none)
put_other old new n (Subckt model binds) cover never none pushed =
    (put_pushed old new n (Subckt model binds) cover pushed none (put_subckt old n model binds), ap is_some none)

-- ---- Lines of ports, where no cover is open.

inputs_added : (m : ReadModel) (at : ℕ) (name : Name) (lines : List Numbered) (n : ℕ) (ps all : List Name) (ports : Vec ReadPort Global) → all ≡ with_names m.names ps → AddsPorts all n ps m.inputs.items ports.items → IsModelSoFar (record { model = m; cover = None }) at name lines
    → IsModelSoFar (record { model = record m { names = all; inputs = ports }; cover = None }) at name (lines ++ (n, inputs_line ps) ∷ [])
inputs_added m at name lines n ps all ports grown adds h =
    line_more m (record m { names = all; inputs = ports }) None None at name lines (n, inputs_line ps) refl refl grown
    (ports_added m.names all n ps m.inputs.items ports.items (flat_map inputs_in lines) grown adds h.inputs)
    (ports_kept m.names all ps m.outputs.items (flat_map outputs_in lines) [] grown refl h.outputs)
    (ports_kept m.names all ps m.clocks.items (flat_map clocks_in lines) [] grown refl h.clocks)
    (each_same m.names all ps m.statements.items lines (n, inputs_line ps) grown tt refl h.statements)
    h

outputs_added : (m : ReadModel) (at : ℕ) (name : Name) (lines : List Numbered) (n : ℕ) (ps all : List Name) (ports : Vec ReadPort Global) → all ≡ with_names m.names ps → AddsPorts all n ps m.outputs.items ports.items → IsModelSoFar (record { model = m; cover = None }) at name lines
    → IsModelSoFar (record { model = record m { names = all; outputs = ports }; cover = None }) at name (lines ++ (n, outputs_line ps) ∷ [])
outputs_added m at name lines n ps all ports grown adds h =
    line_more m (record m { names = all; outputs = ports }) None None at name lines (n, outputs_line ps) refl refl grown
    (ports_kept m.names all ps m.inputs.items (flat_map inputs_in lines) [] grown refl h.inputs)
    (ports_added m.names all n ps m.outputs.items ports.items (flat_map outputs_in lines) grown adds h.outputs)
    (ports_kept m.names all ps m.clocks.items (flat_map clocks_in lines) [] grown refl h.clocks)
    (each_same m.names all ps m.statements.items lines (n, outputs_line ps) grown tt refl h.statements)
    h

clocks_added : (m : ReadModel) (at : ℕ) (name : Name) (lines : List Numbered) (n : ℕ) (ps all : List Name) (ports : Vec ReadPort Global) → all ≡ with_names m.names ps → AddsPorts all n ps m.clocks.items ports.items → IsModelSoFar (record { model = m; cover = None }) at name lines
    → IsModelSoFar (record { model = record m { names = all; clocks = ports }; cover = None }) at name (lines ++ (n, clock_line ps) ∷ [])
clocks_added m at name lines n ps all ports grown adds h =
    line_more m (record m { names = all; clocks = ports }) None None at name lines (n, clock_line ps) refl refl grown
    (ports_kept m.names all ps m.inputs.items (flat_map inputs_in lines) [] grown refl h.inputs)
    (ports_kept m.names all ps m.outputs.items (flat_map outputs_in lines) [] grown refl h.outputs)
    (ports_added m.names all n ps m.clocks.items ports.items (flat_map clocks_in lines) grown adds h.clocks)
    (each_same m.names all ps m.statements.items lines (n, clock_line ps) grown tt refl h.statements)
    h

-- what such a line says, by its kind
abbrev pub AddsAt : ReadModel → Option OpenCover → Numbered → ReadModel → Option OpenCover → Type 0
AddsAt m before x new after = AddsLine (record { model = m; cover = before }) x (record { model = new; cover = after })

pub inputs_more : (m : ReadModel) (cover : Option OpenCover) (l : Line) (all : List Name) (ports : Vec ReadPort Global) → kind_of l ≡ inputs_kind → cover ≡ None → all ≡ with_names m.names (arguments l) → AddsPorts all l.number (arguments l) m.inputs.items ports.items
    → AddsAt m cover (l.number, said_of l) (record m { names = all; inputs = ports }) cover
inputs_more m cover l all ports kind none grown adds =
    let said : said_of l ≡ inputs_line (arguments l) = ap (λ k. said_by k (arguments l) l.words) kind in
    subst (λ (o : Option OpenCover). AddsAt m o (l.number, said_of l) (record m { names = all; inputs = ports }) o) (sym none)
    (subst (λ (s : Said). AddsAt m None (l.number, s) (record m { names = all; inputs = ports }) None) (sym said)
    (λ at name lines h. inputs_added m at name lines l.number (arguments l) all ports grown adds h))

pub outputs_more : (m : ReadModel) (cover : Option OpenCover) (l : Line) (all : List Name) (ports : Vec ReadPort Global) → kind_of l ≡ outputs_kind → cover ≡ None → all ≡ with_names m.names (arguments l) → AddsPorts all l.number (arguments l) m.outputs.items ports.items
    → AddsAt m cover (l.number, said_of l) (record m { names = all; outputs = ports }) cover
outputs_more m cover l all ports kind none grown adds =
    let said : said_of l ≡ outputs_line (arguments l) = ap (λ k. said_by k (arguments l) l.words) kind in
    subst (λ (o : Option OpenCover). AddsAt m o (l.number, said_of l) (record m { names = all; outputs = ports }) o) (sym none)
    (subst (λ (s : Said). AddsAt m None (l.number, s) (record m { names = all; outputs = ports }) None) (sym said)
    (λ at name lines h. outputs_added m at name lines l.number (arguments l) all ports grown adds h))

pub clocks_more : (m : ReadModel) (cover : Option OpenCover) (l : Line) (all : List Name) (ports : Vec ReadPort Global) → kind_of l ≡ clock_kind → cover ≡ None → all ≡ with_names m.names (arguments l) → AddsPorts all l.number (arguments l) m.clocks.items ports.items
    → AddsAt m cover (l.number, said_of l) (record m { names = all; clocks = ports }) cover
clocks_more m cover l all ports kind none grown adds =
    let said : said_of l ≡ clock_line (arguments l) = ap (λ k. said_by k (arguments l) l.words) kind in
    subst (λ (o : Option OpenCover). AddsAt m o (l.number, said_of l) (record m { names = all; clocks = ports }) o) (sym none)
    (subst (λ (s : Said). AddsAt m None (l.number, s) (record m { names = all; clocks = ports }) None) (sym said)
    (λ at name lines h. clocks_added m at name lines l.number (arguments l) all ports grown adds h))

few_behind : (ws : List Word) → length (drop 1 ws) ≤ length ws
few_behind [] = omega arith
few_behind (w ∷ ws) = omega arith

-- a line of ports brings at most as many names as it has words
pub few_ports : (old new : List Name) (ws : List Word) → new ≡ with_names old (drop 1 ws) → length new ≤ length old + length ws
few_ports old new ws is =
    let grown = with_names-grows old (drop 1 ws) in
    omega (arith, ap length (is ∙ grown.1), length-append old grown.0, grown.2, few_behind ws)

-- ---- Lines of statements, where no cover is open.

-- the parts of a model but its names and statements are the same
pub record IsSameBeside (m new : ReadModel) : Type 0 where
  pub name : new.name ≡ m.name
  pub line : new.line ≡ m.line
  pub inputs : new.inputs ≡ m.inputs
  pub outputs : new.outputs ≡ m.outputs
  pub clocks : new.clocks ≡ m.clocks

same_ports : (all new added : List Name) (old after : Vec ReadPort Global) (spelled more : List Port) → new ≡ with_names all added → after ≡ old → more ≡ [] → SpellsPorts all old.items spelled → SpellsPorts new after.items (spelled ++ more)
same_ports all new added old after spelled more grown same none h =
    subst (λ (v : Vec ReadPort Global). SpellsPorts new v.items (spelled ++ more)) (sym same) (ports_kept all new added old.items spelled more grown none h)

-- a line that says a statement
statement_added : (m new : ReadModel) (after : Option OpenCover) (at : ℕ) (name : Name) (lines : List Numbered) (n : ℕ) (said : Said) (what : ReadStatement) → IsSameBeside m new → new.names ≡ with_names m.names (nets_in (n, said)) → inputs_in (n, said) ≡ [] → outputs_in (n, said) ≡ [] → clocks_in (n, said) ≡ []
    → SpellsSome new.names (Some what) (statement_said said) → PutsStatement m.statements.items n what new.statements.items after → IsModelSoFar (record { model = m; cover = None }) at name lines → IsModelSoFar (record { model = new; cover = after }) at name (lines ++ (n, said) ∷ [])
statement_added m new after at name lines n said what same grown no_inputs no_outputs no_clocks says puts h =
    line_more m new None after at name lines (n, said) same.name same.line grown
    (same_ports m.names new.names (nets_in (n, said)) m.inputs new.inputs (flat_map inputs_in lines) (inputs_in (n, said)) grown same.inputs no_inputs h.inputs)
    (same_ports m.names new.names (nets_in (n, said)) m.outputs new.outputs (flat_map outputs_in lines) (outputs_in (n, said)) grown same.outputs no_outputs h.outputs)
    (same_ports m.names new.names (nets_in (n, said)) m.clocks new.clocks (flat_map clocks_in lines) (clocks_in (n, said)) grown same.clocks no_clocks h.clocks)
    (puts new.names lines said says (each_kept m.names new.names (nets_in (n, said)) m.statements.items (statements_in lines) grown h.statements))
    h

statement_at : (m new : ReadModel) (after : Option OpenCover) (n : ℕ) (said : Said) (what : ReadStatement) → IsSameBeside m new → new.names ≡ with_names m.names (nets_of (statement_said said)) → SpellsSome new.names (Some what) (statement_said said) → PutsStatement m.statements.items n what new.statements.items after
    → AddsAt m None (n, said) new after
statement_at m new after n (names_line ins out) what same grown says puts = λ at name lines h. statement_added m new after at name lines n (names_line ins out) what same grown refl refl refl says puts h
statement_at m new after n (latch_line d q clocking init) what same grown says puts = λ at name lines h. statement_added m new after at name lines n (latch_line d q clocking init) what same grown refl refl refl says puts h
statement_at m new after n (subckt_line model binds) what same grown says puts = λ at name lines h. statement_added m new after at name lines n (subckt_line model binds) what same grown refl refl refl says puts h
statement_at m new after n said what same grown says puts = absurd says

pub statement_more : (m new : ReadModel) (before after : Option OpenCover) (n : ℕ) (said : Said) (what : ReadStatement) → before ≡ None → IsSameBeside m new → new.names ≡ with_names m.names (nets_of (statement_said said)) → SpellsSome new.names (Some what) (statement_said said) → PutsStatement m.statements.items n what new.statements.items after
    → AddsAt m before (n, said) new after
statement_more m new before after n said what none same grown says puts =
    subst (λ (o : Option OpenCover). AddsAt m o (n, said) new after) (sym none) (statement_at m new after n said what same grown says puts)

-- a line that says neither a statement nor ports nor a row
abbrev IsQuiet : Said → Type 0
IsQuiet (model_line name) = Unit {0}
IsQuiet end_line = Unit {0}
IsQuiet _ = ⊥

quiet_latch : (all : List Name) (ws : List Word) → SpellsSome all None (statement_said (latch_said ws)) → IsQuiet (latch_said ws)
quiet_latch all [] h = tt
quiet_latch all (d ∷ []) h = tt
quiet_latch all (d ∷ q ∷ []) h = absurd h
quiet_latch all (d ∷ q ∷ init ∷ []) h = absurd h
quiet_latch all (d ∷ q ∷ type ∷ control ∷ []) h = absurd h
quiet_latch all (d ∷ q ∷ type ∷ control ∷ init ∷ ws) h = absurd h

quiet_subckt : (all : List Name) (ws : List Word) → SpellsSome all None (statement_said (subckt_said ws)) → IsQuiet (subckt_said ws)
quiet_subckt all [] h = tt
quiet_subckt all (w ∷ ws) h = absurd h

quiet_by : (all : List Name) (k : Kind) (ws words : List Word) → declares_ports k ≡ false → is_row k ≡ false → SpellsSome all None (statement_said (said_by k ws words)) → IsQuiet (said_by k ws words)
quiet_by all model_kind ws words ports row h = tt
quiet_by all inputs_kind ws words ports row h = cc ports
quiet_by all outputs_kind ws words ports row h = cc ports
quiet_by all clock_kind ws words ports row h = cc ports
quiet_by all names_kind ws words ports row h = absurd h
quiet_by all latch_kind ws words ports row h = quiet_latch all ws h
quiet_by all subckt_kind ws words ports row h = quiet_subckt all ws h
quiet_by all end_kind ws words ports row h = tt
quiet_by all other_kind ws words ports row h = tt
quiet_by all row_kind ws words ports row h = cc row

quiet_added : (m new : ReadModel) (at : ℕ) (name : Name) (lines : List Numbered) (n : ℕ) (said : Said) → new.names ≡ m.names → IsSameBeside m new → new.statements ≡ m.statements → nets_in (n, said) ≡ [] → inputs_in (n, said) ≡ [] → outputs_in (n, said) ≡ [] → clocks_in (n, said) ≡ [] → IsNoRowLine (n, said) → statements_in ((n, said) ∷ []) ≡ []
    → IsModelSoFar (record { model = m; cover = None }) at name lines → IsModelSoFar (record { model = new; cover = None }) at name (lines ++ (n, said) ∷ [])
quiet_added m new at name lines n said all same statements no_nets no_inputs no_outputs no_clocks row none h =
    let grown : new.names ≡ with_names m.names [] = all in
    line_more m new None None at name lines (n, said) same.name same.line (all ∙ ap (with_names m.names) (sym no_nets))
    (same_ports m.names new.names [] m.inputs new.inputs (flat_map inputs_in lines) (inputs_in (n, said)) grown same.inputs no_inputs h.inputs)
    (same_ports m.names new.names [] m.outputs new.outputs (flat_map outputs_in lines) (outputs_in (n, said)) grown same.outputs no_outputs h.outputs)
    (same_ports m.names new.names [] m.clocks new.clocks (flat_map clocks_in lines) (clocks_in (n, said)) grown same.clocks no_clocks h.clocks)
    (subst (λ (v : Vec ReadLocated Global). SpellsEach new.names v.items (statements_in (lines ++ (n, said) ∷ []))) (sym statements)
    (each_same m.names new.names [] m.statements.items lines (n, said) grown row none h.statements))
    h

quiet_at : (m new : ReadModel) (n : ℕ) (said : Said) → IsQuiet said → new.names ≡ m.names → IsSameBeside m new → new.statements ≡ m.statements → AddsAt m None (n, said) new None
quiet_at m new n (model_line x) quiet all same statements = λ at name lines h. quiet_added m new at name lines n (model_line x) all same statements refl refl refl refl tt refl h
quiet_at m new n end_line quiet all same statements = λ at name lines h. quiet_added m new at name lines n end_line all same statements refl refl refl refl tt refl h
quiet_at m new n said quiet all same statements = absurd quiet

no_nets_where_none : (all : List Name) (said : Said) → SpellsSome all None (statement_said said) → nets_of (statement_said said) ≡ []
no_nets_where_none all (names_line ins out) h = absurd h
no_nets_where_none all (latch_line d q clocking init) h = absurd h
no_nets_where_none all (subckt_line model binds) h = absurd h
no_nets_where_none all said h = refl

pub no_statement_more : (m new : ReadModel) (before after : Option OpenCover) (k : Kind) (l : Line) → before ≡ None → after ≡ None → kind_of l ≡ k → declares_ports k ≡ false → is_row k ≡ false → IsSameBeside m new → new.statements ≡ m.statements → new.names ≡ with_names m.names (nets_of (statement_said (said_of l)))
    → SpellsSome new.names None (statement_said (said_of l)) → AddsAt m before (l.number, said_of l) new after
no_statement_more m new before after k l none none_after kind ports row same statements grown says =
    let by : said_of l ≡ said_by k (arguments l) l.words = ap (λ j. said_by j (arguments l) l.words) kind in
    let quiet : IsQuiet (said_of l) = subst IsQuiet (sym by) (quiet_by new.names k (arguments l) l.words ports row (subst (λ (s : Said). SpellsSome new.names None (statement_said s)) by says)) in
    let all : new.names ≡ m.names = grown ∙ ap (with_names m.names) (no_nets_where_none new.names (said_of l) says) in
    subst (λ (o : Option OpenCover). AddsAt m o (l.number, said_of l) new after) (sym none)
    (subst (λ (o : Option OpenCover). AddsAt m None (l.number, said_of l) new o) (sym none_after) (quiet_at m new l.number (said_of l) quiet all same statements))

-- a cover is open behind `.names`
abbrev is_names_said : Said → Bool
is_names_said (names_line ins out) = true
is_names_said _ = false

latch_no_names : (ws : List Word) → is_names_said (latch_said ws) ≡ false
latch_no_names [] = refl
latch_no_names (d ∷ []) = refl
latch_no_names (d ∷ q ∷ []) = refl
latch_no_names (d ∷ q ∷ init ∷ []) = refl
latch_no_names (d ∷ q ∷ type ∷ control ∷ []) = refl
latch_no_names (d ∷ q ∷ type ∷ control ∷ init ∷ ws) = refl

subckt_no_names : (ws : List Word) → is_names_said (subckt_said ws) ≡ false
subckt_no_names [] = refl
subckt_no_names (w ∷ ws) = refl

names_by : (k : Kind) (ws words : List Word) → is_row k ≡ false → is_names_said (said_by k ws words) ≡ opens k false
names_by model_kind ws words row = refl
names_by inputs_kind ws words row = refl
names_by outputs_kind ws words row = refl
names_by clock_kind ws words row = refl
names_by names_kind ws words row = refl
names_by latch_kind ws words row = latch_no_names ws
names_by subckt_kind ws words row = subckt_no_names ws
names_by end_kind ws words row = refl
names_by other_kind ws words row = refl
names_by row_kind ws words row = cc row

names_same : (all : List Name) (what : ReadStatement) (said : Said) → SpellsSome all (Some what) (statement_said said) → is_names what ≡ is_names_said said
names_same all (Names ins out cover) (names_line a b) h = refl
names_same all (Names ins out cover) (latch_line d q c i) h = let e = h.same [] in cc e
names_same all (Names ins out cover) (subckt_line m bs) h = let e = h.same [] in cc e
names_same all (Latch d q c i) (names_line a b) h = let e = h.same [] in cc e
names_same all (Latch d q c i) (latch_line d' q' c' i') h = refl
names_same all (Latch d q c i) (subckt_line m bs) h = refl
names_same all (Subckt m bs) (names_line a b) h = let e = h.same [] in cc e
names_same all (Subckt m bs) (latch_line d q c i) h = refl
names_same all (Subckt m bs) (subckt_line m' bs') h = refl
names_same all what said h = absurd h

pub opens_same : (all : List Name) (what : ReadStatement) (k : Kind) (l : Line) → kind_of l ≡ k → is_row k ≡ false → SpellsSome all (Some what) (statement_said (said_of l)) → is_names what ≡ opens k false
opens_same all what k l kind row h =
    names_same all what (said_of l) h ∙ (ap (λ j. is_names_said (said_by j (arguments l) l.words)) kind ∙ names_by k (arguments l) l.words row)

-- a line brings at most as many names as it has words
few_controls : (c : Clocking) → length (control_nets c) ≤ length (clocking_words c)
few_controls plain = omega arith
few_controls (edge rising None) = omega arith
few_controls (edge rising (Some n)) = omega arith

few_nets : (said : Said) → length (nets_of (statement_said said)) ≤ length (spelling said)
few_nets (names_line ins out) = omega arith
few_nets (latch_line d q clocking init) = omega (arith, few_controls clocking, length-append (clocking_words clocking) (init_words init))
few_nets (subckt_line model binds) = omega (arith, length-map binds (λ (b : Bind). b.actual), length-map binds bind_word)
few_nets said = omega arith

pub few_statement : (old new : List Name) (l : Line) (said : Said) → Says l said → new ≡ with_names old (nets_of (statement_said said)) → length new ≤ length old + length l.words
few_statement old new l said says is =
    let grown = with_names-grows old (nets_of (statement_said said)) in
    omega (arith, ap length (is ∙ grown.1), length-append old grown.0, grown.2, few_nets said, ap length says.0)

pub on_ok : {T E : Type 0} (P Q : Type 0) (r : Result T E) → (P → Q) → OnOk r P → OnOk r Q
on_ok P Q (Ok x) f h = f h
on_ok P Q (Err e) f h = tt

-- ---- The model of all lines.

ports_are : (all : List Name) (ports : List ReadPort) (spelled : List Port) → SpellsPorts all ports spelled → map (port_of all) ports ≡ spelled
ports_are all ports spelled h = ap (λ (ns : List Name). map (port_of ns) ports) (sym (append-nil all)) ∙ h.same []

each_are : (all : List Name) (statements : List ReadLocated) (spelled : List Located) → SpellsEach all statements spelled → map (located_of all) statements ≡ spelled
each_are all statements spelled h = ap (λ (ns : List Name). map (located_of ns) statements) (sym (append-nil all)) ∙ h.same []

pub closed_model : (m : ModelSoFar) (n : ℕ) (name : Name) (lines : List Numbered) → m.cover ≡ None → IsModelSoFar m n name lines → (model_in m.model ≡ model_of n name lines) × HasIds m.model
closed_model m n name lines none h =
    let s : SpellsEach m.model.names m.model.statements.items (statements_in lines) = subst (λ (o : Option OpenCover). AreStatements m.model.names m.model.statements.items o lines) {x = m.cover} {y = None} none h.statements in
    let inputs = ports_are m.model.names m.model.inputs.items (flat_map inputs_in lines) h.inputs in
    let outputs = ports_are m.model.names m.model.outputs.items (flat_map outputs_in lines) h.outputs in
    let clocks = ports_are m.model.names m.model.clocks.items (flat_map clocks_in lines) h.clocks in
    let statements = each_are m.model.names m.model.statements.items (statements_in lines) s in
    let same : model_in m.model ≡ model_of n name lines = λ i. record {
      name = h.name_is i;
      line = h.line_is i;
      names = h.names_are i;
      inputs = inputs i;
      outputs = outputs i;
      clocks = clocks i;
      statements = statements i;
    } in (
      same,
      record {
        inputs = All-from_recursion _ _ h.inputs.within;
        outputs = All-from_recursion _ _ h.outputs.within;
        clocks = All-from_recursion _ _ h.clocks.within;
        statements = All-from_recursion _ _ s.within;
      },
    )

pub on_ok_both : {T E : Type 0} (P Q R : Type 0) (r : Result T E) → (P → Q → R) → OnOk r P → OnOk r Q → OnOk r R
on_ok_both P Q R (Ok x) f h k = f h k
on_ok_both P Q R (Err e) f h k = tt

pub few_words : (old new : List Name) (words : List (Bor Word)) → new ≡ with_names old (drop 1 (words_in words)) → length new ≤ length old + length words
few_words old new words is = omega (arith, few_ports old new (words_in words) is, length-map words (λ (w : Bor Word). w.now))

-- ---- Models.

pub closed_models : (old new : List ReadModel) (before : Option ModelSoFar) (last : ModelSoFar) (model : ReadModel) (lines : List Numbered) → before ≡ Some last → new ≡ old ++ model ∷ []
    → ((n : ℕ) (name : Name) (body : List Numbered) → IsModelSoFar last n name body → model_in model ≡ model_of n name body)
    → ((n : ℕ) (name : Name) (body : List Numbered) → IsModelSoFar last n name body → HasIds model)
    → AreModels old before lines → AreClosed new lines
closed_models old new before last model lines was pushed same ids h =
    let l : IsLastModel old last lines = subst (λ (o : Option ModelSoFar). AreModels old o lines) {x = before} {y = Some last} was h in
    let declared : models_of lines ≡ models_of l.before ++ model_of l.n l.name l.body ∷ [] = ap models_of l.split ∙ models_cut l.before l.n l.name l.body l.no_model in
    let both : map model_in (old ++ model ∷ []) ≡ models_of l.before ++ model_of l.n l.name l.body ∷ []
    = map-append model_in old (model ∷ []) ∙ ap₂ (λ (a : List Model) (b : Model). a ++ b ∷ []) l.closed_are (same l.n l.name l.body l.last_is) in
    subst (λ (ms : List ReadModel). AreClosed ms lines) (sym pushed)
    (record { same = both ∙ sym declared; ids = AllByRecursion-append HasIds old (model ∷ []) l.ids (ids l.n l.name l.body l.last_is, tt) })

pub closed_none : (models : List ReadModel) (last : Option ModelSoFar) (lines : List Numbered) → last ≡ None → AreModels models last lines → AreClosed models lines
closed_none models last lines none h =
    let both : (models ≡ []) × (lines ≡ []) = subst (λ (o : Option ModelSoFar). AreModels models o lines) {x = last} {y = None} none h in
    record {
      same = ap (map model_in) both.0 ∙ ap models_of (sym both.1);
      ids = subst (AllByRecursion HasIds) (sym both.0) tt;
    }

pub begins_model : (closed : List ReadModel) (new : ModelSoFar) (n : ℕ) (name : Name) (lines : List Numbered) → AreClosed closed lines → IsModelSoFar new n name [] → IsLastModel closed new (lines ++ (n, model_line name) ∷ [])
begins_model closed new n name lines h is =
    record {
      before = lines;
      n = n;
      name = name;
      body = [];
      split = refl;
      no_model = tt;
      closed_are = h.same;
      ids = h.ids;
      last_is = is;
    }

-- a line of the last model
pub more_of_model : (closed : List ReadModel) (before : Option ModelSoFar) (last new : ModelSoFar) (x : Numbered) (lines : List Numbered) → before ≡ Some last → AddsLine last x new → IsNoModelLine x → AreModels closed before lines → IsLastModel closed new (lines ++ x ∷ [])
more_of_model closed before last new x lines was adds no_model h =
    let l : IsLastModel closed last lines = subst (λ (o : Option ModelSoFar). AreModels closed o lines) {x = before} {y = Some last} was h in
    record {
      before = l.before;
      n = l.n;
      name = l.name;
      body = l.body ++ x ∷ [];
      split = ap (λ (ls : List Numbered). ls ++ x ∷ []) l.split ∙ append_assoc l.before ((l.n, model_line l.name) ∷ l.body) (x ∷ []);
      no_model = no_model_more l.body x l.no_model no_model;
      closed_are = l.closed_are;
      ids = l.ids;
      last_is = adds l.n l.name l.body l.last_is;
    }

no_model_latch : (n : ℕ) (ws : List Word) → IsNoModelLine (n, latch_said ws)
no_model_latch n [] = tt
no_model_latch n (d ∷ []) = tt
no_model_latch n (d ∷ q ∷ []) = tt
no_model_latch n (d ∷ q ∷ init ∷ []) = tt
no_model_latch n (d ∷ q ∷ type ∷ control ∷ []) = tt
no_model_latch n (d ∷ q ∷ type ∷ control ∷ init ∷ ws) = tt

no_model_subckt : (n : ℕ) (ws : List Word) → IsNoModelLine (n, subckt_said ws)
no_model_subckt n [] = tt
no_model_subckt n (w ∷ ws) = tt

no_model_row : (n : ℕ) (ws : List Word) → IsNoModelLine (n, row_said ws)
no_model_row n [] = tt
no_model_row n (w ∷ []) = tt
no_model_row n (w ∷ v ∷ ws) = tt

no_model_by : (n : ℕ) (k : Kind) (ws words : List Word) → is_model k ≡ false → IsNoModelLine (n, said_by k ws words)
no_model_by n model_kind ws words h = cc h
no_model_by n inputs_kind ws words h = tt
no_model_by n outputs_kind ws words h = tt
no_model_by n clock_kind ws words h = tt
no_model_by n names_kind ws words h = tt
no_model_by n latch_kind ws words h = no_model_latch n ws
no_model_by n subckt_kind ws words h = no_model_subckt n ws
no_model_by n end_kind ws words h = tt
no_model_by n other_kind ws words h = tt
no_model_by n row_kind ws words h = no_model_row n words

-- a line that isn't `.model` says no model
pub says_no_model : (k : Kind) (l : Line) → kind_of l ≡ k → is_model k ≡ false → IsNoModelLine (l.number, said_of l)
says_no_model k l kind h =
    subst (λ (s : Said). IsNoModelLine (l.number, s)) (sym (ap (λ j. said_by j (arguments l) l.words) kind)) (no_model_by l.number k (arguments l) l.words h)
