-- What gates of a statement read, and the nets of its names.
use Rattle.std.proofs.Common.{◌≡◌, refl, sym, ◌∙◌, ap, ap₂, inl, subst, ℕ, ◌+◌, ◌<◌, ◌≤◌, List, [], ◌∷◌, length, map, set, get_or, true, false, Contains}
use Rattle.std.proofs.lemmas.List.{length-map, length-set}
use Rattle.std.specs.List.{AllByRecursion}
use Rattle.netlist_spec.specs.Netlist.{Name, same_name, stands_in, are_distinct, names, File}
use Rattle.netlist_spec.specs.Covers.{Library, cover_value}
use Rattle.netlist_spec.specs.Size.{cover_cost}
use Rattle.netlist_spec.specs.Gates.{GateList}
use Rattle.netlist_spec.proofs.OneValue.{fails_first}
use Rattle.imp_text.specs.declared.names.NameId.{NameId}
use Rattle.imp_text.specs.declared.cover.Cover.{Cover as ReadCover}
use Rattle.gate_net.specs.declared.gate.NetId.{NetId}
use Rattle.gate_net.specs.Gate.{net_number}
use Rattle.gate_net.specs.GateNet.{net_count}
use Rattle.reduction.specs.Appended.{Extends, HasBit, IsAppended, ReadsInputsAlone}
use Rattle.reduction.proofs.GateReads.{AreAllowed, allowed_none, allowed_also}
use Rattle.blif_read.specs.Ids.{IsIdOf}
use Rattle.blif_read.specs.View.{cover_of, row_of, name_at}
use Rattle.source_laws.specs.Nets.{net_of_names, no_statement}
use Rattle.lowering.specs.Nets.{net_in}
use Rattle.lowering.specs.Numbers.{NotesCover, nets_for}
use Rattle.lowering.specs.Lowers.{CanLower, Lowers}
use Rattle.lowering.proofs.TableLemmas.{noted_here, noted_elsewhere, net_at}

-- what reads inputs alone reads nothing else
pub allowed_inputs : (ins : List ℕ) (first : ℕ) (nets : List ℕ) → AllByRecursion (λ n. Contains ins n) nets → AreAllowed ins first nets
allowed_inputs ins first [] a = allowed_none ins first
allowed_inputs ins first (n ∷ nets) a = allowed_also ins nets first n (inl a.0) (allowed_inputs ins first nets a.1)

-- ---- covers

pub notes_cover : (ins : List NetId) (nets : List ℕ) (cover : ReadCover) (out net : ℕ) (old : GateList) (table : List ℕ) (new : GateList) → map net_number ins ≡ nets
    → IsAppended old new net → HasBit old new net (λ v. cover_value (cover_of cover) (map v (map net_number ins)))
    → net_count new ≤ net_count old + cover_cost (length ins) (length cover.rows.items)
    → ReadsInputsAlone old new (map net_number ins) → Extends old new
    → NotesCover nets (cover_of cover) out old table new (set table out net)
notes_cover ins nets cover out net old table new same appended value cost reads extends =
    let width : length ins ≡ length nets = sym (length-map ins net_number) ∙ ap length same in
    let rows : length cover.rows.items ≡ length (map row_of cover.rows.items) = sym (length-map cover.rows.items row_of) in
    let costs : cover_cost (length ins) (length cover.rows.items) ≡ cover_cost (length nets) (length (cover_of cover).rows) = ap₂ cover_cost width rows in
    record {
      net = net;
      table = refl;
      appended = appended;
      value = subst (λ (ns : List ℕ). HasBit old new net (λ v. cover_value (cover_of cover) (map v ns))) same value;
      cost = subst (λ (c : ℕ). net_count new ≤ net_count old + c) costs cost;
      reads = subst (λ (ns : List ℕ). ReadsInputsAlone old new ns) same reads;
      extends = extends;
    }

-- the nets of names by their numbers
pub nets_at : (all : List Name) (table : List ℕ) (ids : List NameId) → are_distinct all ≡ true → AllByRecursion (IsIdOf all) ids
    → map (net_in all table) (map (name_at all) ids) ≡ nets_for table ids
nets_at all table [] d h = refl
nets_at all table (id ∷ ids) d h = ap₂ (λ (n : ℕ) (ns : List ℕ). n ∷ ns) (net_at all table id.0 d h.0) (nets_at all table ids d h.1)

-- names apart from the one whose net is noted keep theirs
kept_nets : (all : List Name) (table : List ℕ) (i x : ℕ) (ns : List Name) → i < length all → AllByRecursion (λ n. stands_in n (get_or all i [] ∷ []) ≡ false) ns
    → map (net_in all (set table i x)) ns ≡ map (net_in all table) ns
kept_nets all table i x [] h a = refl
kept_nets all table i x (n ∷ ns) h a =
    ap₂ (λ (k : ℕ) (ks : List ℕ). k ∷ ks) (noted_elsewhere all table i x n h (fails_first (same_name n (get_or all i [])) false a.0).0) (kept_nets all table i x ns h a.1)

-- A cover whose net is noted is its statement, lowered.
pub cover_lowers : (file : File) (library : Library) (all : List Name) (ins : List NameId) (out : NameId) (cover : ReadCover) (old : GateList) (table : List ℕ) (new : GateList) (noted : List ℕ)
    → AllByRecursion (IsIdOf all) ins → IsIdOf all out
    → CanLower file library all (names (map (name_at all) ins) (name_at all out) (cover_of cover)) old table
    → NotesCover (nets_for table ins) (cover_of cover) out.0 old table new noted
    → Lowers file library all (names (map (name_at all) ins) (name_at all out) (cover_of cover)) old table new noted
cover_lowers file library all ins out cover old table new noted ids own can notes =
    subst (λ (l : List ℕ). Lowers file library all (names (map (name_at all) ins) (name_at all out) (cover_of cover)) old table new l) (sym notes.table) now
  where
    its_nets : map (net_in all table) (map (name_at all) ins) ≡ nets_for table ins
    its_nets = nets_at all table ins can.distinct ids

    here : net_in all (set table out.0 notes.net) (name_at all out) ≡ notes.net
    here = noted_here all table out.0 notes.net can.distinct can.size own

    width : length (nets_for table ins) ≡ length (map (name_at all) ins)
    width = length-map ins (λ (id : NameId). get_or table id.0 0) ∙ sym (length-map ins (name_at all))

    now : Lowers file library all (names (map (name_at all) ins) (name_at all out) (cover_of cover)) old table new (set table out.0 notes.net)
    now =
        record {
          extends = notes.extends;
          cost = subst (λ (w : ℕ). net_count new ≤ net_count old + cover_cost w (length (cover_of cover).rows)) width notes.cost;
          reads = subst (λ (ns : List ℕ). ReadsInputsAlone old new ns) (sym its_nets) notes.reads;
          size = length-set table out.0 notes.net;
          others = λ n h. noted_elsewhere all table out.0 notes.net n own (fails_first (same_name n (name_at all out)) false h).0;
          driven = (subst (λ (k : ℕ). IsAppended old new k) (sym here) notes.appended, tt);
          holds = net_of_names (λ v a. ap v here ∙ (notes.value v a ∙ ap (λ (ns : List ℕ). cover_value (cover_of cover) (map v ns)) (sym (kept_nets all table out.0 notes.net (map (name_at all) ins) own can.apart ∙ its_nets)))) no_statement;
        }
