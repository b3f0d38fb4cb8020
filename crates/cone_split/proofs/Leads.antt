-- Where the gates of a copied cone lead, and what they read.
use Rattle.std.proofs.Common.{◌≡◌, sym, ◌∙◌, ap, subst, ℕ, ◌+◌, ◌-◌, ◌<◌, ◌≤◌, ◌⊎◌, inl, inr, List, ◌++◌, length, Contains, arith, Some, slice_get}
use Rattle.std.specs.List.{AllZip}
use Rattle.std.proofs.lemmas.Option.{slice_get_within, slice_get-get_or}
use Rattle.netlist_spec.specs.Gates.{GateForm, GateList, gate_reads}
use Rattle.netlist_spec.specs.GateRanges.{Region, LiesIn, LeadsToEnd, is_read as leads_on}
use Rattle.gate_net.specs.GateNet.{net_count}
use Rattle.cone_split.specs.Cones.{IsInCone, is_root, is_read}
use Rattle.cone_split.specs.Copies.{AreConeOf, IsImage, AreCopied}
use Rattle.cone_split.specs.Ranges.{ReadsAlone, AllLead}
use Rattle.cone_split.proofs.Cells.{contains_at, at_contains, lt_eq_gt, rises_above, rises_apart}
use Rattle.cone_split.proofs.Copied.{zip_length, zip_left, zip_right, read_images, images_read}
use Rattle.cone_split.proofs.Ranges.{get_left, get_cases, longer, behind_reads, reads_behind}

below_or : (a b : ℕ) → (a < b) ⊎ (b ≤ a)
below_or a b = grind arith

contains_same : (ns : List ℕ) (m n : ℕ) → m ≡ n → Contains ns m → Contains ns n
contains_same ns m n e c = subst (λ (q : ℕ). Contains ns q) e c

-- each gate of the cone is one of the cells
pub cone_in_cells : (net : GateList) (roots cells : List ℕ) (n : ℕ) → AreConeOf net roots cells → IsInCone net roots n → net.leaves ≤ n → Contains cells n
cone_in_cells net roots cells n cone (is_root c) low = cone.roots_in n c low
cone_in_cells net roots cells n cone (is_read {n = m} inc r) low = cone.all.closed m n (cone_in_cells net roots cells m cone inc (let e = r.number in omega arith)) r low

module _ (src : GateList) (roots leaf cells nets : List ℕ) (old : GateList) (hs tail : List GateForm) (cone : AreConeOf src roots cells) (long : length leaf ≡ src.leaves) (copied : AreCopied src leaf cells (net_count old) cells hs) (images : AllZip (IsImage leaf cells (net_count old)) roots nets)
    (r : Region) (first : r.first ≡ net_count old) (end : r.end ≡ net_count old + (length hs + length tail)) where
  abbrev whole : GateList
  whole = longer old (hs ++ tail)

  same_length : length cells ≡ length hs
  same_length = zip_length _ cells hs copied

  in_range : (i : ℕ) → i < length hs + length tail → LiesIn r (net_count old + i)
  in_range i h = (omega arith, omega arith)

  image_lies : (n m : ℕ) → IsImage leaf cells (net_count old) n m → Contains leaf m ⊎ LiesIn r m
  image_lies n m (inl e) = inl (contains_at leaf n m e)
  image_lies n m (inr (low, (i, at, e))) =
      let h = slice_get_within cells i n at in
      let l = same_length in
      inr (subst (λ (q : ℕ). LiesIn r q) (sym e) (in_range i (omega arith)))

  pub reads_alone : ((i k : ℕ) (g : GateForm) → slice_get tail i ≡ Some g → Contains (gate_reads g) k → Contains nets k ⊎ ((j : ℕ) × (j < i) × (k ≡ net_count old + length hs + j))) → ReadsAlone whole leaf r
  reads_alone tail_reads n k lies reads =
      let (i, g, at, number, c) = reads_behind old (hs ++ tail) n k (let a = lies.0 in omega arith) reads in
      elim (get_cases hs tail i g at) [
        | inl e ↦
            let (m, at_m, (own, is_own, same)) = zip_left _ cells hs i g copied e in
            let (a, ra, image) = read_images leaf cells (net_count old) own g k same c in
            image_lies a k image
        | inr e ↦ elim (tail_reads e.0 k g e.2 c) [
          | inl d ↦
              let (p, at_p) = at_contains nets k d in
              let (a, at_a, image) = zip_left _ roots nets p k images at_p in
              image_lies a k image
          | inr d ↦
              let h = slice_get_within tail e.0 g e.2 in
              let less = d.1 in
              let is = d.2 in
              inr (omega arith, omega arith)
        ]
      ]

  leads_at : (m n : ℕ) → m ≡ n → LeadsToEnd whole r m → LeadsToEnd whole r n
  leads_at m n e to = subst (λ (q : ℕ). LeadsToEnd whole r q) e to

  -- the net of a cell is its own
  own_image : (i n m : ℕ) → slice_get cells i ≡ Some n → IsImage leaf cells (net_count old) n m → m ≡ net_count old + i
  own_image i n m at (inl e) = absurd (
      let low = rises_above src.leaves cells n cone.all.rise (contains_at cells i n at) in
      let h = slice_get_within leaf n m e in
      omega arith)
  own_image i n m at (inr (low, (j, at_j, e))) =
      let same : j ≡ i = elim (lt_eq_gt j i) [
        | inl h ↦ absurd (let up = rises_apart src.leaves cells j i n n cone.all.rise h at_j at in omega arith)
        | inr (inl h) ↦ h
        | inr (inr h) ↦ absurd (let up = rises_apart src.leaves cells i j n n cone.all.rise h at at_j in omega arith)
      ] in
      e ∙ ap (λ (p : ℕ). net_count old + p) same

  module _ (nets_lead : (m : ℕ) → Contains nets m → LiesIn r m → LeadsToEnd whole r m) where
    cell_leads : (n i : ℕ) → IsInCone src roots n → slice_get cells i ≡ Some n → LeadsToEnd whole r (net_count old + i)
    cell_leads n i (is_root c) at =
        let (p, at_p) = at_contains roots n c in
        let (m, at_m, image) = zip_right _ roots nets p n images at_p in
        let is = own_image i n m at image in
        let h = slice_get_within cells i n at in
        let l = same_length in
        leads_at m (net_count old + i) is (nets_lead m (contains_at nets p m at_m) (subst (λ (q : ℕ). LiesIn r q) (sym is) (in_range i (omega arith))))
    cell_leads n i (is_read {n = k} inc reads) at =
        let low : src.leaves ≤ k = (let e = reads.number in omega arith) in
        let (j, at_j) = at_contains cells k (cone_in_cells src roots cells k cone inc low) in
        let (h, at_h, (own, is_own, same)) = zip_right _ cells hs j k copied at_j in
        let place : reads.place ≡ k - src.leaves = (let e = reads.number in omega arith) in
        let both : Some reads.gate ≡ Some own = sym reads.is_gate ∙ (ap (λ (q : ℕ). slice_get src.gates q) place ∙ is_own) in
        let one : reads.gate ≡ own = cc both in
        let (m, c, image) = images_read leaf cells (net_count old) own h n same (subst (λ (f : GateForm). Contains (gate_reads f) n) one reads.reads) in
        let is = own_image i n m at image in
        let w = slice_get_within cells j k at_j in
        let l = same_length in
        leads_on (in_range j (omega arith)) (behind_reads old (hs ++ tail) j (net_count old + i) h (get_left hs tail j h at_h) (contains_same (gate_reads h) m (net_count old + i) is c)) (cell_leads k j inc at_j)

    pub all_lead : ((i : ℕ) → i < length tail → LeadsToEnd whole r (net_count old + length hs + i)) → AllLead whole r
    all_lead tail_leads n lies =
        let a = lies.0 in
        let b = lies.1 in
        let l = same_length in
        let i = n - net_count old in
        elim (below_or i (length hs)) [
          | inl h ↦ (let at = slice_get-get_or cells i 0 (omega arith) in leads_at (net_count old + i) n (omega arith) (cell_leads _ i (cone.alone _ (contains_at cells i _ at)) at))
          | inr h ↦ (let j = i - length hs in leads_at (net_count old + length hs + j) n (omega arith) (tail_leads j (omega arith)))
        ]
