-- The stores to words that are watched.
use Rattle.std.proofs.Common.{◌≡◌, ℕ, ◌*◌, ◌/◌, ◌||◌, Bool, true, false, Option, Some, None, List, [], ◌∷◌, cond, map, refl, ap, ◌∙◌, ◌+◌}
use Rattle.std.specs.Prelude.{◌==◌, option_map, if◌then◌else◌}
use Rattle.std.specs.List.{find, list_any}
use Rattle.std.proofs.lemmas.Bool.{eqb-true}
use Rattle.xs_model.specs.Memory.{load_word}
use Rattle.xs_model.specs.Record.{CoreRec}
use Rattle.xs_instructions.specs.Code.{code_at}
use Rattle.processor.specs.declared.picks.NextIssue.{NextIssue}
use Rattle.sys_plan.specs.Plan.{PlanRec}
use Rattle.core_step.specs.declared.told.Told.{Told}
use Rattle.told_run.specs.Slots.{IsToldIn}
use Rattle.issue_model.specs.Seen.{node_after, seen_at}
use Rattle.issue_model.specs.Endings.{ending_of, is_done}
use Rattle.issue_model.specs.Issues.{thread_in, done_by, stored_by}
use Rattle.issue_model.specs.Watch.{or_0, is_watched, value_around, watched_lines, watch_by, node_watched}
use Rattle.issue_text.specs.declared.words.Word.{Word}
use Rattle.issue_text.specs.declared.node_slot.NodeSlot.{NodeSlot}
use Rattle.issue_text.specs.NodeSlots.{IsNodeSlot}
use Rattle.issue_text.specs.Changes.{watched_by, watched_in}
use Rattle.issue_text.specs.Words.{word_of}

abbrev pub its-was : Word → ℕ
its-was w = w.was

-- the first of two, or what was found of the others
one-more : (here later : Bool) (w : Word) (rest : Option Word) (is : ℕ) → (here ≡ true → w.was ≡ is) → option_map its-was rest ≡ (if later then Some is else None)
    → option_map its-was (cond here (Some w) rest) ≡ (if (here || later) then Some is else None)
one-more true later w rest is same found = ap Some (same refl)
one-more false later w rest is same found = found

module _ (memory : List ℕ) (at : ℕ) where
  abbrev pub lies-in : Word → Bool
  lies-in w = (w.at / 4) == (at / 4)

  -- two addresses in one word
  one-word : (a : ℕ) → ((a / 4) == (at / 4)) ≡ true → value_around memory a ≡ value_around memory at
  one-word a same = ap (λ (n : ℕ). or_0 (load_word memory (4 * n))) (eqb-true (a / 4) (at / 4) same)

  -- of an address that is watched the word is found
  pub found-is : (addresses : List ℕ) → option_map its-was (find lies-in (map (word_of memory) addresses)) ≡ (if is_watched addresses at then Some (value_around memory at) else None)
  found-is [] = refl
  found-is (a ∷ addresses) =
      one-more ((a / 4) == (at / 4)) (list_any (λ (b : ℕ). (b / 4) == (at / 4)) addresses) (word_of memory a) (find lies-in (map (word_of memory) addresses))
      (value_around memory at) (one-word a) (found-is addresses)

-- no word is found, or this one is
pub none-watched : (is_there : Bool) (is : ℕ) (lines : List (List ℕ)) → None ≡ (if is_there then Some is else None) → [] ≡ (if is_there then lines else [])
none-watched true is lines found = cc
none-watched false is lines found = refl

pub one-watched : (is_there : Bool) (is was : ℕ) (lines : ℕ → List (List ℕ)) → Some was ≡ (if is_there then Some is else None) → lines was ≡ (if is_there then lines is else [])
one-watched true is was lines found =
    let same : was ≡ is = cc in
    ap lines same
one-watched false is was lines found = cc

-- the lines of an issue, by the cores before the slot and after it
by-cores : (addresses : List ℕ) (at : NodeSlot) (numbers : List ℕ) (slot : ℕ) (before after : CoreRec) (traps : Bool) (issue : Option NextIssue)
    → at.lines.now ≡ numbers → at.slot ≡ slot → at.before.now ≡ before.threads → at.after.now ≡ after.threads
    → watched_by addresses at traps before.memory after.memory issue ≡ watch_by addresses at.node.now numbers slot before after traps issue
by-cores addresses at numbers slot before after traps None l s b a = refl
by-cores addresses at numbers slot before after traps (Some next) l s b a = λ i.
    watched_lines addresses at.node.now (l i) (s i) next.thread (thread_in (b i) next.thread).pc before.memory after.memory
    (stored_by (thread_in (b i) next.thread)
    (done_by (is_done (ending_of next.takes traps (thread_in (a i) next.thread).run)) (code_at at.node.now.image.code (thread_in (b i) next.thread).pc)))

-- what is told of a node, and its memory after the slot, make its lines
pub node-is-watched : (plan : PlanRec) (lines : List (List ℕ)) (addresses : List ℕ) (slot n : ℕ) (at : NodeSlot) (told : Told) (after : List ℕ)
    → IsNodeSlot plan lines slot n at → IsToldIn plan slot n told → after ≡ (node_after plan (slot + 1) n).core.memory
    → watched_in addresses at told (node_after plan slot n).core.memory after ≡ node_watched plan lines addresses slot n at.node.now
node-is-watched plan lines addresses slot n at told after is tells after_is =
    let its = tells at.node.now is.node in
    let seen = seen_at plan slot n at.node.now in
    (λ i. watched_by addresses at (its.traps i) (node_after plan slot n).core.memory (after_is i) (its.issue i))
    ∙ by-cores addresses at _ slot (node_after plan slot n).core (node_after plan (slot + 1) n).core seen.traps seen.issue is.numbers is.slot_is is.before is.after
