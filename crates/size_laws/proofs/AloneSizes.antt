-- A layout has at most one size.
use Rattle.std.proofs.Common.{◌≡◌, ℕ, ◌<◌, length, arith}
use Rattle.netlist_spec.specs.Netlist.{Model, File}
use Rattle.netlist_spec.specs.Covers.{Library}
use Rattle.guard_spec.specs.Codes.{Code, Mode, rail_count}
use Rattle.guard_spec.specs.Words.{Settings, Layout, IsLayout}
use Rattle.guard_spec.specs.Plain.{IsPlain, IsSizeWith}
use Rattle.size_laws.specs.Partial.{IsPartialSize}
use Rattle.size_laws.proofs.SourceCones.{one_source_size, layout_fits}
use Rattle.size_laws.proofs.PartialSizes.{first_within, whole_size}

-- A size is alone, whether or not the layout fits.
pub size_alone : (file : File) (library : Library) (m : Model) (code : Code) (mode : Mode) (radius rails : ℕ) (l : Layout) (n k : ℕ) → IsSizeWith file library m code mode radius rails l n → IsSizeWith file library m code mode radius rails l k → n ≡ k
size_alone file library m code mode radius rails l n k a b =
    let low = first_within file library m code mode radius rails l (length l.state) (length l.output) n k (whole_size file library m code mode radius rails l n a) b in
    let high = first_within file library m code mode radius rails l (length l.state) (length l.output) k n (whole_size file library m code mode radius rails l k b) a in
    omega arith

-- where a sum stops above the limit
pub stopped_size : (file : File) (s : Settings) (m : Model) (l : Layout) (i j p : ℕ) → IsLayout m s l → IsPartialSize file s.library m s.code s.mode s.bound (rail_count s.mode s.bound) l i j p → 1000000 < p → (n : ℕ) × IsPlain file s.library m s.code s.mode s.bound l n × (1000000 < n)
stopped_size file s m l i j p is sum large =
    let (n, one) = one_source_size file s.library m s.code s.mode s.bound (rail_count s.mode s.bound) l (layout_fits m s l is) in
    let h = first_within file s.library m s.code s.mode s.bound (rail_count s.mode s.bound) l i j p n sum one.holds in
    (n, one.holds, omega arith)
