-- Texts that are given to blocks.
use Rattle.std.proofs.Common.{◌≡◌, ℕ, List, [], ◌++◌, refl, sym, ap, ◌∙◌, subst, append_assoc, append-nil, Ok, Err, None, Some}
use Rattle.std.specs.Prelude.{IsSome}
use Rattle.std.specs.declared.option.Option.{Option}
use Rattle.imp_io.specs.declared.fault.SinkFault.{SinkFault}
use Rattle.imp_io.specs.declared.blocks.Blocks.{Blocks}
use Rattle.arrayvec.specs.ArrayVec.{ArrayVec}
use Rattle.imp_io.specs.Sink.{SinkSeen, Puts, PutsOnce}
use Rattle.imp_io.specs.Blocks.{StandsAt, Gives}
use Rattle.imp_io.proofs.PutLemmas.{Puts-append, Puts-stopped}

-- a piece that the block holds behind what it held
pub held-more : (start below : SinkSeen) (text held piece : List ℕ) (stopped : Option SinkFault) → StandsAt start text below held stopped → StandsAt start (text ++ piece) below (held ++ piece) stopped
held-more start below text held piece None (done, puts, is) = (done, puts, ap (λ l. l ++ piece) is ∙ append_assoc done held piece)
held-more start below text held piece (Some fault) puts = Puts-stopped start below text piece fault puts

-- the block is put and empty
block-put : (start below new : SinkSeen) (text held : List ℕ) (stopped now : Option SinkFault) → PutsOnce stopped below held now new → StandsAt start text below held stopped → StandsAt start text new [] now
block-put start below new text held None None put (done, puts, is) =
    (done ++ held, Puts-append start below new done held tt (Ok tt) puts put, is ∙ sym (append-nil (done ++ held)))
block-put start below new text held None (Some fault) put (done, puts, is) =
    subst (λ (l : List ℕ). Puts {T = Unit {0}} start l (Err fault) new) (sym is) (Puts-append start below new done held tt (Err fault) puts put)
block-put start below new text held (Some fault) now (same, still) puts =
    rw (same, still) puts

pub block-given : (start below new : SinkSeen) (text held empty : List ℕ) (stopped now : Option SinkFault) → empty ≡ [] → PutsOnce stopped below held now new → StandsAt start text below held stopped → StandsAt start (text ++ []) new empty now
block-given start below new text held empty stopped now is put stands =
    subst (λ (l : List ℕ). StandsAt start (text ++ []) new l now) (sym is)
    (subst (λ (l : List ℕ). StandsAt start l new [] now) (sym (append-nil text)) (block-put start below new text held stopped now put stands))

-- nothing behind a fault
pub put-stopped : (below new : SinkSeen) (held : List ℕ) (stopped now : Option SinkFault) → PutsOnce stopped below held now new → IsSome stopped → (now ≡ stopped) × (new ≡ below)
put-stopped below new held None now put some = absurd (cc some)
put-stopped below new held (Some fault) now put some = put

-- all is put where no fault came and the block is empty
pub flushed-whole : (start below : SinkSeen) (text held : List ℕ) (stopped : Option SinkFault) → stopped ≡ None → held ≡ [] → StandsAt start (text ++ []) below held stopped → Puts {T = Unit {0}} start text (Ok tt) below
flushed-whole start below text held None none empty (done, puts, is) =
    subst (λ (l : List ℕ). Puts {T = Unit {0}} start l (Ok tt) below) (sym (sym (append-nil text) ∙ is ∙ ap (λ l. done ++ l) empty ∙ append-nil done)) puts
flushed-whole start below text held (Some fault) none empty stands = absurd (cc none)

-- and the fault is told where one came
pub flushed-stopped : (start below : SinkSeen) (text held : List ℕ) (stopped : Option SinkFault) (fault : SinkFault) → stopped ≡ Some fault → StandsAt start (text ++ []) below held stopped → Puts {T = Unit {0}} start text (Err fault) below
flushed-stopped start below text held None fault some stands = absurd (cc some)
flushed-stopped start below text held (Some other) fault some puts =
    let same : other ≡ fault = cc some in
    subst (λ (l : List ℕ). Puts {T = Unit {0}} start l (Err fault) below) (append-nil text) (subst (λ (f : SinkFault). Puts {T = Unit {0}} start (text ++ []) (Err f) below) same puts)

module _ {O : Type 0} {seen : O → SinkSeen} where
  -- a piece behind another
  pub Gives-append : {old mid new : Blocks O} {first second : List ℕ} → Gives seen old first mid → Gives seen mid second new → Gives seen old (first ++ second) new
  Gives-append {old} {mid} {new} {first} {second} p q = record {
    same_sink = q.same_sink ∙ p.same_sink;
    text = λ start text stands.
        subst (λ (l : List ℕ). StandsAt start l (seen new.to.now) new.block.items new.stopped) (append_assoc text first second) (q.text start (text ++ first) (p.text start text stands));
    stopped = λ some.
        let before = p.stopped some in
        let after = q.stopped (subst IsSome (sym before.0) some) in
        (after.0 ∙ before.0, after.1 ∙ before.1);
  }

  -- nothing is given
  pub Gives-nil : (now : Blocks O) → Gives seen now [] now
  Gives-nil now = record {
    same_sink = refl;
    text = λ start text stands. subst (λ (l : List ℕ). StandsAt start l (seen now.to.now) now.block.items now.stopped) (sym (append-nil text)) stands;
    stopped = λ some. (refl, refl);
  }

  -- a piece that the block has room for
  pub Gives-held : (old : Blocks O) (piece : List ℕ) (block : ArrayVec ℕ) → block.items ≡ old.block.items ++ piece → Gives seen old piece (record { to = old.to; block = block; stopped = old.stopped })
  Gives-held old piece block is = record {
    same_sink = refl;
    text = λ start text stands.
        subst (λ (l : List ℕ). StandsAt start (text ++ piece) (seen old.to.now) l old.stopped) (sym is) (held-more start (seen old.to.now) text old.block.items piece old.stopped stands);
    stopped = λ some. (refl, refl);
  }

  -- and is put with the block
  pub Gives-put : {old mid new : Blocks O} {piece : List ℕ} → Gives seen old piece mid → Gives seen mid [] new → Gives seen old piece new
  Gives-put {old} {mid} {new} {piece} p q = subst (λ (l : List ℕ). Gives seen old l new) (append-nil piece) (Gives-append p q)

  -- a text that is the same as one that was given
  pub Gives-text : {old new : Blocks O} {a b : List ℕ} → a ≡ b → Gives seen old a new → Gives seen old b new
  Gives-text {old} {new} is given = subst (λ (l : List ℕ). Gives seen old l new) is given
