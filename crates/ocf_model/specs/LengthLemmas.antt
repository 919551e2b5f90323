-- Lemmas on lengths of results, resources and states.
use Rattle.std.proofs.Common.{◌≡◌, ℕ, ◌+◌, ◌≤◌, List, length, refl, arith, length-append, ◌*◌, Option, Some, None, IsTrue}
use Rattle.std.specs.List.{flat_map}
use Rattle.ocf_types.specs.Limits.{bare_state, ended_len, longest_resource, monitor_len, operation_len, running_len}
use Rattle.ocf_types.specs.Names.{is_rsc_id, is_name_byte}
use Rattle.ocf_types.specs.Encoding.{encoded_params, length-two_bytes, length-four_bytes, length-eight_bytes, encoded_op, encoded_op_in}
use Rattle.ocf_types.specs.Encoding.{encoded_recur, encoded_recur_in}
use Rattle.ocf_types.specs.LengthLemmas.{id_short, length_each, length_first_op, length_first_recur, length_op, length_outcome, length_recur, name_short}
use Rattle.ocf_types.specs.declared.layout.Layout.{Layout}
use Rattle.ocf_types.specs.declared.layout.Layout.TheVariants.{First, Second}
use Rattle.ocf_types.specs.declared.operation.Running.{Running}
use Rattle.ocf_types.specs.declared.operation.Ended.{Ended}
use Rattle.ocf_model.specs.StateEncoding.{encoded_running, encoded_running_in, encoded_ended, encoded_failed, encoded_resource}
use Rattle.ocf_model.specs.StateEncoding.{encoded_resource_in, encoded_state, encoded_state_in}
use Rattle.ocf_model.specs.Resource.{Resource}
use Rattle.ocf_model.specs.State.{State}
use Rattle.ocf_model.specs.LawfulState.{IsLawfulResource, IsLawfulResourceIn}

-- the lengths of a result and a running action
pub length_ended : (e : Ended) → length (encoded_ended e) ≡ ended_len
length_ended e = simp (length-append, length-eight_bytes, length-four_bytes, length_outcome) refl

pub length_running : (x : Running) → length (encoded_running (Some x)) ≡ running_len
length_running x = simp (length-append, length-eight_bytes, length-four_bytes) refl

running_short : (x : Option Running) → length (encoded_running x) ≤ running_len
running_short None = omega arith
running_short (Some x) = omega (arith, length_running x)

first_running_short : (x : Option Running) → length (encoded_running_in First x) ≤ running_len
first_running_short None = omega arith
first_running_short (Some x) = simp (length-append, length-eight_bytes, length-four_bytes) (omega arith)

pub failed_short : (x : Option Ended) → length (encoded_failed x) ≤ 1 + ended_len
failed_short None = omega arith
failed_short (Some e) = omega (arith, length_ended e)

-- the length of a resource's encoding
pub length_resource : (e : List ℕ × Resource)
    → length (encoded_resource e) ≡ 6 + length e.0 + length e.1.provider + length e.1.agent + length (encoded_params e.1.params)
    + operation_len * length e.1.history.queue + length (encoded_running e.1.history.running) + monitor_len * length e.1.recurring
    + ended_len * length e.1.history.ended + length (encoded_failed e.1.history.failed)
unfolding encoded_resource_in
length_resource e =
    let queue = length_each encoded_op operation_len length_op e.1.history.queue in
    let monitors = length_each encoded_recur monitor_len length_recur e.1.recurring in
    let results = length_each encoded_ended ended_len length_ended e.1.history.ended in
    simp length-append (omega (arith, queue, monitors, results))

-- the greatest length of a lawful resource
pub resource_short : (n k clock : ℕ) (e : List ℕ × Resource) → IsTrue (is_rsc_id e.0) → IsLawfulResource n k clock e.1
    → length (encoded_resource e) ≤ longest_resource
resource_short n k clock e id r =
    omega (
      arith,
      length_resource e,
      id_short e.0 id,
      name_short is_name_byte e.1.provider r.provider,
      name_short is_name_byte e.1.agent r.agent,
      r.params_len,
      r.queue_len,
      running_short e.1.history.running,
      r.recurring_len,
      r.ended_len,
      failed_short e.1.history.failed,
    )

-- the same in either layout
pub resource_short_in : (layout : Layout) (n k clock : ℕ) (e : List ℕ × Resource) → IsTrue (is_rsc_id e.0)
    → IsLawfulResourceIn layout n k clock e.1 → length (encoded_resource_in layout e) ≤ longest_resource
unfolding encoded_resource_in
resource_short_in First n k clock e id r =
    let queue = length_each (encoded_op_in First) 14 length_first_op e.1.history.queue in
    let monitors = length_each (encoded_recur_in First) 17 length_first_recur e.1.recurring in
    let results = length_each encoded_ended ended_len length_ended e.1.history.ended in
    simp length-append (
    omega (
      arith,
      queue,
      monitors,
      results,
      id_short e.0 id,
      name_short is_name_byte e.1.provider r.provider,
      name_short is_name_byte e.1.agent r.agent,
      r.params_len,
      r.queue_len,
      first_running_short e.1.history.running,
      r.recurring_len,
      r.ended_len,
      failed_short e.1.history.failed,
    )
    )
resource_short_in Second n k clock e id r = resource_short n k clock e id r

-- the length of a state's encoding
pub length_state : (s : State) → length (encoded_state s) ≡ bare_state + length (flat_map encoded_resource s.resources)
unfolding encoded_state_in
length_state s = simp (length-append, length-eight_bytes, length-two_bytes) (omega arith)
