use Rattle.std.proofs.Common.{refl}
use Rattle.sb_app.proofs.Clients.{client_call}
use Rattle.sb_app.proofs.client.client_status.Goals as goal

pub returns : goal.returns
returns g c disks = client_call _ _ _ _ c.run_script-end.result c.status_of_ending.result c.status_of_ending.ensures
    (record {
      run = c.run_script-end.ensures.run;
      disks = refl;
      read_fault = c.run_script-end.ensures.read_fault;
      read_quiet = c.run_script-end.ensures.read_quiet;
      write_fault = c.run_script-end.ensures.write_fault;
      write_quiet = c.run_script-end.ensures.write_quiet;
      link_fault = c.run_script-end.ensures.link_fault;
      link_quiet = c.run_script-end.ensures.link_quiet;
    })
