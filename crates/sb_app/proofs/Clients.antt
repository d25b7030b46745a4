-- A whole call that has a server answer its input.
use Rattle.std.proofs.Common.{◌≡◌, ◌≢◌, inl, inr, ℕ, List, [], ◌++◌, true, false, Option, Some, None, refl, sym, ◌∙◌, ap, subst}
use Rattle.sb_outside.specs.Causes.{RoseByOne}
use Rattle.sb_outside.specs.Streams.{Gains}
use Rattle.sb_outside.specs.Links.{Exchange}
use Rattle.sb_client.specs.Requests.{request_of}
use Rattle.sb_client.specs.Replies.{HasNoLine}
use Rattle.sb_client.specs.Answers.{one_exchange}
use Rattle.sb_client.specs.Outside.{Outside as ClientSide}
use Rattle.sb_client.specs.Runs.{exchanges_in, EndsAt, IsCutRun, IsRun}
use Rattle.sb_client.specs.declared.ending.ClientEnding.{ClientEnding}
use Rattle.sb_client.specs.declared.ending.ClientEnding.TheVariants.{Done, ReadFault, WriteFault, LinkFault, BadReply, LongInput, OutOfMemory}
use Rattle.sb_app.specs.Outside.{Outside}
use Rattle.sb_app.specs.Tops.{IsComplete}
use Rattle.sb_app.specs.Clients.{Exchanges, status_of_client, client_side, MayHaveGiven, IsFreeClient, IsClientCall}
use Rattle.sb_client.proofs.Advances.{cut_at_once}
use Rattle.sb_app.proofs.Carried.{rose_of, short_long}

-- ---- what a status says of the end

read_end : (end : ClientEnding) → status_of_client end ≡ 3 → end ≡ ReadFault
read_end ReadFault is = refl
read_end (Done false) is = absurd cc
read_end (Done true) is = absurd cc
read_end _ is = absurd cc

write_end : (end : ClientEnding) → status_of_client end ≡ 4 → end ≡ WriteFault
write_end WriteFault is = refl
write_end (Done false) is = absurd cc
write_end (Done true) is = absurd cc
write_end _ is = absurd cc

link_end : (end : ClientEnding) → status_of_client end ≡ 8 → end ≡ LinkFault
link_end LinkFault is = refl
link_end (Done false) is = absurd cc
link_end (Done true) is = absurd cc
link_end _ is = absurd cc

-- ---- a reply without a line

given_last : (key : List ℕ) (told told_after : Option (List Exchange)) (before made : List Exchange) (line reply : List ℕ) → made ≡ one_exchange key line reply → Gains told told_after (before ++ made) → MayHaveGiven told told_after reply
given_last key told told_after before made line reply is gains = (before, [], request_of key line, subst (λ (m : List Exchange). Gains told told_after (before ++ m)) is gains)

bad_reply : (was now : ClientSide) → ((reply : List ℕ) → MayHaveGiven was.told now.told reply → HasNoLine reply → ⊥) → IsCutRun was now BadReply → ⊥
bad_reply was now answered run = by_last run.last run.ends
  where
    by_last : (last : Option (List ℕ)) → EndsAt was.key BadReply last run.made run.part → ⊥
    by_last None ends = ends.0
    by_last (Some line) ends = answered ends.0 (given_last was.key was.told now.told (exchanges_in run.answers) run.made line ends.0 ends.2 run.told) ends.3

-- ---- the call

-- what is known of its run
pub record IsClientEnded (was now : Outside) (link link_now : Exchanges) (end : ClientEnding) : Type 0 where
  pub run : IsRun (client_side was link) (client_side now link_now) end
  pub disks : now.disks ≡ was.disks
  pub read_fault : end ≡ ReadFault → RoseByOne was.input.faults now.input.faults
  pub read_quiet : end ≢ ReadFault → now.input.faults ≡ was.input.faults
  pub write_fault : end ≡ WriteFault → RoseByOne was.output.faults now.output.faults
  pub write_quiet : end ≢ WriteFault → now.output.faults ≡ was.output.faults
  pub link_fault : end ≡ LinkFault → RoseByOne link.faults link_now.faults
  pub link_quiet : end ≢ LinkFault → link_now.faults ≡ link.faults

complete_client : (was now : Outside) (link link_now : Exchanges) (end : ClientEnding) → IsClientEnded was now link link_now end → IsFreeClient was now link link_now → IsComplete (status_of_client end)
complete_client was now link link_now (Done refused) ended free = inl (refused, refl)
complete_client was now link link_now ReadFault ended free = absurd (free.input_quiet (rose_of _ _ (ended.read_fault refl)))
complete_client was now link link_now WriteFault ended free = absurd (free.output_quiet (rose_of _ _ (ended.write_fault refl)))
complete_client was now link link_now LinkFault ended free = absurd (free.link_quiet (rose_of _ _ (ended.link_fault refl)))
complete_client was now link link_now BadReply ended free = absurd (bad_reply (client_side was link) (client_side now link_now) free.answered ended.run)
complete_client was now link link_now LongInput ended free = absurd (short_long was.input.left now.input.left free.short (ended.run.long refl))
complete_client was now link link_now OutOfMemory ended free = inr refl

pub client_call : (was now : Outside) (link link_now : Exchanges) (end : ClientEnding) (status : ℕ) → status ≡ status_of_client end → IsClientEnded was now link link_now end → IsClientCall was now link link_now status
client_call was now link link_now end status says ended = record {
  end = end;
  says = says;
  run = ended.run;
  disks = ended.disks;
  read_fault = λ three. ended.read_fault (read_end end (sym says ∙ three));
  read_quiet = λ other. ended.read_quiet (λ is. other (says ∙ ap status_of_client is));
  write_fault = λ four. ended.write_fault (write_end end (sym says ∙ four));
  write_quiet = λ other. ended.write_quiet (λ is. other (says ∙ ap status_of_client is));
  link_fault = λ eight. ended.link_fault (link_end end (sym says ∙ eight));
  link_quiet = λ other. ended.link_quiet (λ is. other (says ∙ ap status_of_client is));
  complete = λ free. subst IsComplete (sym says) (complete_client was now link link_now end ended free);
}

-- memory was wanting before anything was done
pub at_once : (was : Outside) (link : Exchanges) → IsClientCall was was link link 7
at_once was link = client_call was was link link OutOfMemory 7 refl (record {
  run = cut_at_once (client_side was link);
  disks = refl;
  read_fault = λ is. absurd cc;
  read_quiet = λ other. refl;
  write_fault = λ is. absurd cc;
  write_quiet = λ other. refl;
  link_fault = λ is. absurd cc;
  link_quiet = λ other. refl;
})

-- a client has no status 2
pub no_two_client : {was now : Outside} {link link_now : Exchanges} (status : ℕ) → IsClientCall was now link link_now status → status ≡ 2 → ⊥
no_two_client status call two = by_end call.end (sym call.says ∙ two)
  where
    by_end : (end : ClientEnding) → status_of_client end ≡ 2 → ⊥
    by_end (Done false) is = absurd cc
    by_end (Done true) is = absurd cc
    by_end ReadFault is = absurd cc
    by_end WriteFault is = absurd cc
    by_end LinkFault is = absurd cc
    by_end BadReply is = absurd cc
    by_end LongInput is = absurd cc
    by_end OutOfMemory is = absurd cc
