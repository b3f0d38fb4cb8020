-- The gates of a rail as one range.
use Rattle.std.proofs.Common.{◌≡◌, sym, ◌∙◌, ap, subst, refl, ℕ, zero, suc, ◌+◌, ◌-◌, ◌<◌, ◌≤◌, ◌⊎◌, ◌↔◌, inl, inr, Bool, false, List, [], ◌∷◌, ◌++◌, length, Contains, arith, Some, slice_get, IsTrue}
use Rattle.std.specs.Prelude.{◌||◌}
use Rattle.std.specs.List.{AllByRecursion, flat_map, list_any}
use Rattle.std.proofs.lemmas.Option.{slice_get_within}
use Rattle.std.proofs.lemmas.List.{append-nil}
use Rattle.netlist_spec.specs.Gates.{GateForm, constant, GateList, AnswersWithin, gate_reads}
use Rattle.netlist_spec.specs.GateRanges.{Region, LiesIn, LeadsToEnd, is_end, is_read}
use Rattle.guard_spec.specs.Codes.{Code, IsCode}
use Rattle.gate_net.specs.GateNet.{net_count}
use Rattle.gate_net.specs.Words.{WordNets, nets_of}
use Rattle.cone_split.specs.Ranges.{IsAppended, ReadsAlone, AllLead}
use Rattle.cone_split.proofs.Cells.{all_from_contains}
use Rattle.cone_split.proofs.Ranges.{longer, longer_count, behind_answers, behind_reads, reads_behind}
use Rattle.alarm_rails.specs.Rail.{FitsCode, IsRail, SomeIsNone}
use Rattle.alarm_rails.specs.Syndromes.{SyndromeBit, syndrome_bits, alarm_gates, rail_gates}
use Rattle.alarm_rails.proofs.Sums.{grown, grown_count}
use Rattle.alarm_rails.proofs.Alarms.{cells, is_set, alarm_length, alarm_append, alarm_reads, alarm_fed, alarm_value}
use Rattle.alarm_rails.proofs.Counts.{words_cells}
use Rattle.alarm_rails.proofs.Bits.{words_hold, words_tell}

-- ---- one word more

flat_push : (code : Code) (ws : List WordNets) (w : WordNets) → flat_map (syndrome_bits code) (ws ++ w ∷ []) ≡ flat_map (syndrome_bits code) ws ++ syndrome_bits code w
flat_push code [] w = append-nil (syndrome_bits code w)
flat_push code (x ∷ ws) w =
    ap (λ (ss : List SyndromeBit). syndrome_bits code x ++ ss) (flat_push code ws w)
    ∙ sym (joined (syndrome_bits code x) (flat_map (syndrome_bits code) ws) (syndrome_bits code w))
  where
    joined : (xs ys zs : List SyndromeBit) → (xs ++ ys) ++ zs ≡ xs ++ (ys ++ zs)
    joined [] ys zs = refl
    joined (x ∷ xs) ys zs = ap (λ (ss : List SyndromeBit). x ∷ ss) (joined xs ys zs)

pub rail_count : (code : Code) (old now : GateList) (ws : List WordNets) → now ≡ record old { gates = old.gates ++ rail_gates code (net_count old) ws } → net_count now ≡ net_count old + 1 + cells (flat_map (syndrome_bits code) ws)
rail_count code old now ws is =
    let far = grown_count old now (rail_gates code (net_count old) ws) is in
    let long = alarm_length (net_count old) (flat_map (syndrome_bits code) ws) in
    omega arith

pub rail_step : (code : Code) (old now new : GateList) (alarm : ℕ) (ws all : List WordNets) (w : WordNets) → now ≡ record old { gates = old.gates ++ rail_gates code (net_count old) ws } → net_count now ≡ alarm + 1
    → new ≡ record now { gates = now.gates ++ alarm_gates alarm (syndrome_bits code w) } → all ≡ ws ++ w ∷ [] → new ≡ record old { gates = old.gates ++ rail_gates code (net_count old) all }
rail_step code old now new alarm ws all w so_far here more whole =
    let first = net_count old in
    let bits = flat_map (syndrome_bits code) ws in
    let count = rail_count code old now ws so_far in
    let at : first + cells bits ≡ alarm = omega arith in
    grown old now new (rail_gates code first ws) (alarm_gates alarm (syndrome_bits code w)) (rail_gates code first all) so_far more
    (ap (λ (gs : List GateForm). constant false ∷ gs)
    (ap (alarm_gates first) (ap (flat_map (syndrome_bits code)) whole ∙ flat_push code ws w)
    ∙ (alarm_append first bits (syndrome_bits code w) ∙ ap (λ (a : ℕ). alarm_gates first bits ++ alarm_gates a (syndrome_bits code w)) at)))

-- ---- the whole range

module _ (code : Code) (words : List WordNets) (old : GateList) (well : IsCode code) (fits : AllByRecursion (FitsCode code) words) where
  abbrev first : ℕ
  first = net_count old

  abbrev bits : List SyndromeBit
  bits = flat_map (syndrome_bits code) words

  abbrev gates : List GateForm
  gates = alarm_gates first bits

  abbrev whole : GateList
  whole = longer old (rail_gates code first words)

  count : net_count whole ≡ first + length gates + 1
  count = let l = longer_count old (rail_gates code first words) in omega arith

  reads : (r : Region) → IsAppended old whole r → ReadsAlone whole (flat_map nets_of words) r
  reads r a n k lies read =
      let low = lies.0 in
      let high = lies.1 in
      let at_first = a.first in
      let at_end = a.end in
      let (i, g, at, is, c) = reads_behind old (rail_gates code first words) n k (omega arith) read in
      by_place i g at is c
    where
      by_place : (i : ℕ) (g : GateForm) → slice_get (rail_gates code first words) i ≡ Some g → n ≡ first + i → Contains (gate_reads g) k → Contains (flat_map nets_of words) k ⊎ LiesIn r k
      by_place zero g at is c =
          let same : constant false ≡ g = cc at in
          absurd (let h = (subst (λ (x : GateForm). Contains (gate_reads x) k) (sym same) c).1 in omega arith)
      by_place (suc i) g at is c =
          elim (alarm_reads (λ m. Contains (flat_map nets_of words) m) first bits (words_hold (λ m. Contains (flat_map nets_of words) m) code words (all_from_contains (λ m. Contains (flat_map nets_of words) m) (flat_map nets_of words) (λ m d. d))) i k g at c) [
            | inl d ↦ inl d
            | inr d ↦ inr (let x = d.0 in let f = a.first in omega arith, let y = d.1 in let e = lies.1 in omega arith)
          ]

  by_rest : (r : Region) → IsAppended old whole r → (rest n : ℕ) → first ≤ n → LiesIn r n → first + length gates ≤ n + rest → LeadsToEnd whole r n
  by_rest r a zero n low lies h = is_end (let e = a.end in let c = count in let high = lies.1 in omega arith)
  by_rest r a (suc rest) n low lies h = by_end (order n (first + length gates)) (λ m more. by_rest r a rest m more)
    where
      order : (x y : ℕ) → (x < y) ⊎ (y ≤ x)
      order x y = grind arith

      by_end : (n < first + length gates) ⊎ (first + length gates ≤ n) → ((m : ℕ) → first ≤ m → LiesIn r m → first + length gates ≤ m + rest → LeadsToEnd whole r m) → LeadsToEnd whole r n
      by_end (inr done) behind = is_end (let e = a.end in let c = count in let high = lies.1 in omega arith)
      by_end (inl more) behind =
          let (p, g, at, c, further) = alarm_fed first bits n low more in
          let inside = slice_get_within gates p g at in
          let end = a.end in
          let begin = a.first in
          let all = count in
          let there : LiesIn r (first + suc p) = (omega arith, omega arith) in
          is_read there (behind_reads old (rail_gates code first words) (suc p) n g at c) (behind (first + suc p) (omega arith) there (omega arith))

  leads : (r : Region) → IsAppended old whole r → AllLead whole r
  leads r a n lies = let low = lies.0 in let f = a.first in by_rest r a (first + length gates - n) n (omega arith) lies (omega arith)

  value : (v : ℕ → Bool) → AnswersWithin whole (net_count old) (net_count whole) v → IsTrue (v (first + length gates)) ↔ SomeIsNone code words v
  value v answers =
      let front : v first ≡ false = ap v (let z : first ≡ first + 0 = omega arith in z) ∙ behind_answers old (rail_gates code first words) v 0 (constant false) answers refl in
      let told = alarm_value v first bits (λ i g e. ap v (let z : first + 1 + i ≡ first + suc i = omega arith in z) ∙ behind_answers old (rail_gates code first words) v (suc i) g answers e) in
      let last : v (first + length gates) ≡ list_any (is_set v) bits = ap (λ (n : ℕ). v (first + n)) (alarm_length first bits) ∙ (told ∙ ap (λ (x : Bool). x || list_any (is_set v) bits) front) in
      let both = words_tell code well v words fits in
      (λ h. both.0 (sym last ∙ h), λ h. last ∙ both.1 h)

  whole_is_rail : IsRail code words old whole (first + length gates)
  whole_is_rail = record {
    is_new = omega arith;
    is_last = count;
    reads = reads;
    leads = leads;
    few = (let c = count in let l = alarm_length first bits in let f = words_cells code words fits in omega arith);
    value = value;
  }

  pub rail_is : (new : GateList) (last : ℕ) → new ≡ record old { gates = old.gates ++ rail_gates code first words } → net_count new ≡ last + 1 → IsRail code words old new last
  rail_is new last is end =
      let c = count in
      let same = ap net_count is in
      let at : first + length gates ≡ last = omega arith in
      subst (λ (net : GateList). IsRail code words old net last) (sym is) (subst (λ (n : ℕ). IsRail code words old whole n) at whole_is_rail)
