use Rattle.std.proofs.Common.{◌≡◌, ◌<◌, ◌+◌, ◌++◌, ◌∷◌, [], ℕ, zero, suc, List, eqb, get_or, take, ap, ◌∙◌, refl, sym, arith}
use Rattle.std.specs.Prelude.{if◌then◌else◌}
use Rattle.std.specs.List.{flat_map}
use Rattle.std.proofs.lemmas.List.{take_more, append-nil}
use Rattle.std.proofs.lemmas.List.Concat.{flat_map-append}
use Rattle.netlist_spec.specs.SourceRun.{Bits}
use Rattle.program_spec.specs.Demo.{demo_stream, idle_cycle, loading_cycle}
use Rattle.demo_laws.specs.DemoFiles.{cycle_text}
use Rattle.demo_design.proofs.stimulus.stimulus_text.Goals as goal

cycle_at : (n k : ℕ) → k < 8 → get_or (demo_stream n) k [] ≡ (if eqb k 0 then loading_cycle n else idle_cycle n)
cycle_at n zero h = refl
cycle_at n (suc zero) h = refl
cycle_at n (suc (suc zero)) h = refl
cycle_at n (suc (suc (suc zero))) h = refl
cycle_at n (suc (suc (suc (suc zero)))) h = refl
cycle_at n (suc (suc (suc (suc (suc zero))))) h = refl
cycle_at n (suc (suc (suc (suc (suc (suc zero)))))) h = refl
cycle_at n (suc (suc (suc (suc (suc (suc (suc zero))))))) h = refl
cycle_at n (suc (suc (suc (suc (suc (suc (suc (suc k)))))))) h = absurd (omega arith)

one_more : (n k : ℕ) → k < 8 → flat_map cycle_text (take k (demo_stream n)) ++ cycle_text (if eqb k 0 then loading_cycle n else idle_cycle n) ≡ flat_map cycle_text (take (k + 1) (demo_stream n))
one_more n k h =
    ap (λ (x : Bits). flat_map cycle_text (take k (demo_stream n)) ++ cycle_text x) (sym (cycle_at n k h))
    ∙ sym (ap (flat_map cycle_text) (take_more (demo_stream n) k [] h)
    ∙ (flat_map-append cycle_text (take k (demo_stream n)) (get_or (demo_stream n) k [] ∷ [])
    ∙ ap (λ (xs : List ℕ). flat_map cycle_text (take k (demo_stream n)) ++ xs) (append-nil (cycle_text (get_or (demo_stream n) k [])))))

pub loop-c-preserved : goal.loop-c-preserved
loop-c-preserved c =
    let k = c.loop-c.c in
    let n = c.args.n in
    c.in_ok-push_cycle.ensures
    ∙ (ap (λ (xs : List ℕ). xs ++ cycle_text (if eqb k 0 then loading_cycle n else idle_cycle n)) c.loop-c.invariant
    ∙ one_more n k c.loop-c-test.true)
