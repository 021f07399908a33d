-- Demand 3 for the engine, proved: a run tells the first caller what the definitions tell it.
use mathlib.Core.Path.{◌≡◌, refl, ap, ap₂, sym, subst, ◌∙◌}
use mathlib.Core.List.{List}
use Rattle.rules.specs.declared.Answer.{Answer}
use Rattle.rules.specs.Bytes.{Bytes}
use Rattle.rules.specs.Answer.{Answered}
use Rattle.rules.specs.Session.{Sent, State, Reply, firsts, meets, told, after, replies, Isolation}
use Rattle.rules.specs.Session as session
use Rattle.rules.proofs.Isolation.{isolation}
use Rattle.engine.specs.Promise.{Executes, whole}
use Rattle.engine.specs.Runs.{state, reply, Run, over, step, RunsIsolated}

-- one step: the promise allows one answer
module _ (x : Sent) (t : State) (a : Answer) (s i : Bytes) (e : Executes x.cdb x.out t.on t.slice x.input a s i) where
  one : whole a s i ≡ told x t
  unfolding told meets
  one = e

  goes_on : state a.next s ≡ after x t
  unfolding after
  goes_on = ap (λ (w : Answered). state w.answer.next w.slice) one

  replies_so : reply a i ≡ session.reply x t
  unfolding session.reply
  replies_so = ap (λ (w : Answered). reply w.answer w.input) one

pub tells : {t : State} {xs : List Sent} {rs : List Reply} → Run t xs rs → rs ≡ replies t xs
unfolding replies
tells over = refl
tells (step {t} {x} {xs} {a} {s'} {i'} {rest} e more) =
    ap₂ (firsts x.by) (replies_so x t a s' i' e) (subst (λ (u : State). rest ≡ replies u xs) (goes_on x t a s' i' e) (tells more))

pub runs_isolated : RunsIsolated
unfolding RunsIsolated Isolation
runs_isolated r a b xs ys h us vs run run' = tells run ∙ isolation r a b xs ys h ∙ sym (tells run')
