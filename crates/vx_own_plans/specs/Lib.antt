pub mod OwnPlans
