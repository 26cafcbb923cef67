-- A whole schedule: what it says, and its text. Assumes nothing.
use Rattle.std.proofs.Common.{◌≡◌, ℕ, List, map, Some, None, vec_items, Option, sym, ap, ◌∙◌, subst, arith, w8, Fits, get_or}
use Rattle.basis.specs.declared.refusal.Refusal.{Refusal}
use Rattle.basis.specs.declared.answer.Answer.TheVariants.{Refused}
use Rattle.basis.specs.Refusals.{refusal}
use Rattle.list_driver.specs.Asks.{ask_of}
use Rattle.schedule.specs.Reading.{open_refusal}
use Rattle.schedule.specs.Schedules.{read_all}
use Rattle.schedule.specs.Lines.{line_of, lines_from}
use Rattle.schedule.proofs.Sofar.{bytes_typed}
use Rattle.schedule.proofs.Trips.{nothing_lost}
use Rattle.replay.specs.declared.calls.Calls.{Calls}
use Rattle.replay.specs.Answers.{asks_of}
use Rattle.replay.specs.Texts.{outcomes, opened_text, text_of, Lawfully, Replayed}
use Rattle.replay.specs.Views.{refused_by, Says}
use Rattle.replay.proofs.Answering.{TextAnswers}
use Rattle.replay.proofs.Openings.{replay_begins}

never_both : (n : ℕ) (o : Option ℕ) → o ≡ Some n → o ≡ None → ⊥
never_both n o e f = let z : ◌≡◌ {A = ℕ} 0 1 = cc in absurd (omega arith)

-- bytes that are not opened
pub not_opened : (bytes text : List ℕ) (r : Refusal) → open_refusal bytes ≡ Some (refusal r).number → text ≡ line_of 0 (Refused r) → Replayed bytes text
unfolding text_of
not_opened bytes text r e t =
    let computed : text ≡ text_of bytes = t ∙ sym (ap (opened_text bytes) e) in
    record {
      computed = computed;
      begins = replay_begins bytes text computed;
      lawful = λ f. absurd (never_both _ _ e f);
      accounted = λ f. absurd (never_both _ _ e f);
    }

-- bytes that are opened: the text is that of what they say
pub opened : (bytes text : List ℕ) (c : Calls) → ((i : ℕ) → Fits w8 (get_or bytes i 0)) → open_refusal bytes ≡ None → Says bytes c → TextAnswers c.setup (map ask_of (vec_items c.asks)) (refused_by c.stop) text → Replayed bytes text
unfolding text_of
opened bytes text c typed e s t =
    let asks = map ask_of (vec_items c.asks) in
    let computed : text ≡ text_of bytes = t.0 ∙ (λ i. lines_from 1 (outcomes (s.setup i) (s.asks i) (s.stop i))) ∙ sym (ap (opened_text bytes) e) in
    record {
      computed = computed;
      begins = replay_begins bytes text computed;
      lawful = λ _. subst (λ o. Lawfully o (asks_of (read_all bytes).entries)) s.setup (subst (λ l. Lawfully c.setup l) s.asks t.1);
      accounted = λ f. nothing_lost bytes (bytes_typed bytes typed) f;
    }
