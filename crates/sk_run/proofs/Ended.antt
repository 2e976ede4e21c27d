-- What was done, once the buffer is written out.
use Rattle.sk_run.proofs.Names.{◌≡◌, inl, inr, ℕ, List, length, Option, Result, Ok, Err, refl, sym, subst, OnOk}
use Rattle.sk_run.proofs.Names.{Appends, Appends-kept, Keeps-refl, KernelView, start_of, PlainView, FaultIn, TraceFault}
use Rattle.sk_run.proofs.Names.{BootView, Event, plain_report_text, report_text, Stop, End, Shows, IsFlushed}
use Rattle.sk_run.proofs.Names.{Replays, replayed, happened, left_by, trace_fault_end, HasRun, HasSoundTrace}
use Rattle.sk_run.proofs.Names.{EndsReplayed, IsPlayedWith, Plays, EndsReport, EndsPlain, EndsPlay, HasAnswered, Bool, true, false}
use Rattle.sk_run.proofs.Names.{Keeps, Shown, beside_answers, with_refusal, IsWritten}
use Rattle.sk_plain.specs.declared.replay.TraceFault.TheVariants as faults
use Rattle.sk_report.specs.declared.stop.Stop.TheVariants as stops
use Rattle.sk_command.specs.declared.end.End.TheVariants as ends
use Rattle.sk_run.proofs.InTurn.{answered_kept, reported_kept}

module _ {S I : Type 0} (kernel_of : S → KernelView) (process_of : I → Option ℕ) (Takes : ℕ → I → S → S → List ℕ → Type 0) (has_refusal : S → Bool) (report : S → List ℕ)
    (shows : Shows) (file : List (List ℕ)) (items : List I) (s : S) where
  -- items that were played
  pub play_done : (is_refused : Bool) (end : End) (buffer : List ℕ) (old mid new : Option (List ℕ)) → Plays kernel_of process_of Takes has_refusal report shows file is_refused items s old mid
      → IsWritten end buffer → Keeps mid new → EndsPlay kernel_of process_of Takes has_refusal report shows file items s (with_refusal is_refused end) old new
  play_done true ends.Done buffer old mid new played written kept =
      reported_kept (Shown kernel_of process_of Takes (beside_answers shows file)) (IsPlayedWith kernel_of has_refusal report shows true) items s old mid new played kept
  play_done false ends.Done buffer old mid new played written kept =
      reported_kept (Shown kernel_of process_of Takes (beside_answers shows file)) (IsPlayedWith kernel_of has_refusal report shows false) items s old mid new played kept
  play_done true ends.OutputRefused buffer old mid new played written kept = tt
  play_done false ends.OutputRefused buffer old mid new played written kept = tt
  play_done true other buffer old mid new played written kept = absurd written
  play_done false other buffer old mid new played written kept = absurd written

  -- items of which the first were
  pub play_stopped : (stop : Stop) (end : End) (buffer : List ℕ) (old mid new : Option (List ℕ))
      → (stop ≡ stops.Memory → HasAnswered (Shown kernel_of process_of Takes (beside_answers shows file)) items s old mid)
      → EndsReport (Err stop) end buffer mid new → EndsPlay kernel_of process_of Takes has_refusal report shows file items s end old new
  play_stopped stops.Memory end buffer old mid new memory ended =
      subst (λ x. EndsPlay kernel_of process_of Takes has_refusal report shows file items s x old new) (sym ended.0)
      (answered_kept (Shown kernel_of process_of Takes (beside_answers shows file)) items s old mid new (memory refl) ended.1)
  play_stopped stops.Output end buffer old mid new memory ended = subst (λ x. EndsPlay kernel_of process_of Takes has_refusal report shows file items s x old new) (sym ended) tt

-- nothing is left of what was written out, be a refusal told or not
pub done_flushed : (is_refused : Bool) (end : End) (buffer : List ℕ) → IsWritten end buffer → IsFlushed (with_refusal is_refused end) buffer
done_flushed true ends.Done buffer h = h
done_flushed true ends.Refused buffer h = absurd h
done_flushed true other buffer h = tt
done_flushed false ends.Done buffer h = h
done_flushed false ends.Refused buffer h = absurd h
done_flushed false other buffer h = tt

-- a trace of which all that it leaves was run
pub plain_out : (boot : BootView) (es : List Event) (k : PlainView) (steps : ℕ) (written : Result (Unit {0}) Stop) (end : End) (buffer : List ℕ) (old mid new : Option (List ℕ))
    → HasSoundTrace boot es → HasRun boot (left_by boot es) k → steps ≡ length (left_by boot es)
    → OnOk written (Appends old mid (plain_report_text k steps)) → EndsReport written end buffer mid new → EndsPlain boot es end old new
plain_out boot es k steps (Ok u) ends.Done buffer old mid new sound run counted report ended = record {
  sound = sound;
  kernel = k;
  has_run = run;
  report = subst (λ n. Appends old new (plain_report_text k n)) counted (Appends-kept old mid new _ report ended.1);
}
plain_out boot es k steps (Ok u) ends.Fault buffer old mid new sound run counted report ended = absurd ended.0
plain_out boot es k steps (Ok u) ends.Usage buffer old mid new sound run counted report ended = ended.0
plain_out boot es k steps (Ok u) ends.Trouble buffer old mid new sound run counted report ended = inl sound
plain_out boot es k steps (Ok u) ends.OutputRefused buffer old mid new sound run counted report ended = sound
plain_out boot es k steps (Ok u) ends.Refused buffer old mid new sound run counted report ended = ended.0
plain_out boot es k steps (Err stops.Memory) end buffer old mid new sound run counted report ended = subst (λ x. EndsPlain boot es x old new) (sym ended.0) (inl sound)
plain_out boot es k steps (Err stops.Output) end buffer old mid new sound run counted report ended = subst (λ x. EndsPlain boot es x old new) (sym ended) sound

-- a trace with a fault
pub faulty_out : (boot : BootView) (es : List Event) (fault : TraceFault) (end : End) (old : Option (List ℕ)) → FaultIn boot.scripts (start_of boot) (happened es) fault → end ≡ trace_fault_end fault
    → EndsPlain boot es end old old
faulty_out boot es (faults.Refused at) end old h is = subst (λ x. EndsPlain boot es x old old) (sym is) ((at, inl h), Keeps-refl old)
faulty_out boot es (faults.UnknownGuess at) end old h is = subst (λ x. EndsPlain boot es x old old) (sym is) ((at, inr h), Keeps-refl old)
faulty_out boot es s end old h is = subst (λ x. EndsPlain boot es x old old) (sym is) (inr (Keeps-refl old))

pub faulty_flushed : (fault : TraceFault) (end : End) (buffer : List ℕ) → end ≡ trace_fault_end fault → IsFlushed end buffer
faulty_flushed (faults.Refused at) end buffer is = subst (λ x. IsFlushed x buffer) (sym is) tt
faulty_flushed s end buffer is = subst (λ x. IsFlushed x buffer) (sym is) tt

-- a trace that happened again
pub replayed_out : (held : List ℕ) (k : KernelView) (es : List Event) (left : List ℕ) (last : KernelView) (written : Result (Unit {0}) Stop) (end : End) (buffer : List ℕ) (old mid new : Option (List ℕ))
    → Replays es held k left last → last ≡ replayed k es
    → OnOk written (Appends old mid (report_text last)) → EndsReport written end buffer mid new → EndsReplayed held k es end old new
replayed_out held k es left last (Ok u) ends.Done buffer old mid new again is report ended =
    ((left, last, again), subst (λ (r : KernelView). Appends old new (report_text r)) is (Appends-kept old mid new _ report ended.1))
replayed_out held k es left last (Ok u) ends.Fault buffer old mid new again is report ended = absurd ended.0
replayed_out held k es left last (Ok u) ends.Usage buffer old mid new again is report ended = ended.0
replayed_out held k es left last (Ok u) ends.Trouble buffer old mid new again is report ended = inl (left, last, again)
replayed_out held k es left last (Ok u) ends.OutputRefused buffer old mid new again is report ended = (left, last, again)
replayed_out held k es left last (Ok u) ends.Refused buffer old mid new again is report ended = ended.0
replayed_out held k es left last (Err stops.Memory) end buffer old mid new again is report ended = subst (λ x. EndsReplayed held k es x old new) (sym ended.0) (inl (left, last, again))
replayed_out held k es left last (Err stops.Output) end buffer old mid new again is report ended = subst (λ x. EndsReplayed held k es x old new) (sym ended) (left, last, again)
