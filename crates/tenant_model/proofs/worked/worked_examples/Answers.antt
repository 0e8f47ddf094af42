use Rattle.tenant_model.proofs.WorkedProofs.{first_job_is_complete_computes, isolated_waiter_keeps_its_cell_computes, isolated_waiter_keeps_its_cell_within_computes}
use Rattle.tenant_model.proofs.WorkedProofs.{plain_waiter_may_lose_its_cell_computes, post_leaves_its_region_computes, stolen_task_keeps_its_region_computes, fib_takes_85_advances_computes}
use Rattle.tenant_model.proofs.WorkedProofs.{fib_nests_24_times_computes, fib_costs_172_computes, fib_needs_172_computes, cancelled_group_tells_once_computes, chain_reaches_height_128_computes}
use Rattle.tenant_model.proofs.WorkedProofs.{chain_is_too_deep_computes, waiter_leaves_inner_region_computes, waiter_takes_inner_region_computes, retired_job_is_forgotten_computes}
use Rattle.tenant_model.proofs.WorkedProofs.{released_job_is_forgotten_computes}
use Rattle.tenant_model.proofs.worked.worked_examples.Goals as goal

pub returns-clause-first_job_is_complete : goal.returns-clause-first_job_is_complete
returns-clause-first_job_is_complete c = first_job_is_complete_computes

pub returns-clause-isolated_waiter_keeps_its_cell : goal.returns-clause-isolated_waiter_keeps_its_cell
returns-clause-isolated_waiter_keeps_its_cell c = isolated_waiter_keeps_its_cell_computes

pub returns-clause-isolated_waiter_keeps_its_cell_within : goal.returns-clause-isolated_waiter_keeps_its_cell_within
returns-clause-isolated_waiter_keeps_its_cell_within c = isolated_waiter_keeps_its_cell_within_computes

pub returns-clause-plain_waiter_may_lose_its_cell : goal.returns-clause-plain_waiter_may_lose_its_cell
returns-clause-plain_waiter_may_lose_its_cell c = plain_waiter_may_lose_its_cell_computes

pub returns-clause-post_leaves_its_region : goal.returns-clause-post_leaves_its_region
returns-clause-post_leaves_its_region c = post_leaves_its_region_computes

pub returns-clause-stolen_task_keeps_its_region : goal.returns-clause-stolen_task_keeps_its_region
returns-clause-stolen_task_keeps_its_region c = stolen_task_keeps_its_region_computes

pub returns-clause-fib_takes_85_advances : goal.returns-clause-fib_takes_85_advances
returns-clause-fib_takes_85_advances c = fib_takes_85_advances_computes

pub returns-clause-fib_nests_24_times : goal.returns-clause-fib_nests_24_times
returns-clause-fib_nests_24_times c = fib_nests_24_times_computes

pub returns-clause-fib_costs_172 : goal.returns-clause-fib_costs_172
returns-clause-fib_costs_172 c = fib_costs_172_computes

pub returns-clause-fib_needs_172 : goal.returns-clause-fib_needs_172
returns-clause-fib_needs_172 c = fib_needs_172_computes

pub returns-clause-cancelled_group_tells_once : goal.returns-clause-cancelled_group_tells_once
returns-clause-cancelled_group_tells_once c = cancelled_group_tells_once_computes

pub returns-clause-chain_reaches_height_128 : goal.returns-clause-chain_reaches_height_128
returns-clause-chain_reaches_height_128 c = chain_reaches_height_128_computes

pub returns-clause-chain_is_too_deep : goal.returns-clause-chain_is_too_deep
returns-clause-chain_is_too_deep c = chain_is_too_deep_computes

pub returns-clause-waiter_leaves_inner_region : goal.returns-clause-waiter_leaves_inner_region
returns-clause-waiter_leaves_inner_region c = waiter_leaves_inner_region_computes

pub returns-clause-waiter_takes_inner_region : goal.returns-clause-waiter_takes_inner_region
returns-clause-waiter_takes_inner_region c = waiter_takes_inner_region_computes

pub returns-clause-retired_job_is_forgotten : goal.returns-clause-retired_job_is_forgotten
returns-clause-retired_job_is_forgotten c = retired_job_is_forgotten_computes

pub returns-clause-released_job_is_forgotten : goal.returns-clause-released_job_is_forgotten
returns-clause-released_job_is_forgotten c = released_job_is_forgotten_computes
