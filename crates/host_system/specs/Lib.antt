pub mod SystemAgents
